-- THE DEMANDS about the search, and what they come to from stickers to stickers. Assumes nothing.
use Prim.Native.Nat.{ℕ, ◌<◌, ◌≤◌}
use mathlib.Core.Path.{◌≡◌, refl, sym, ap, subst, subst⁻¹, ◌∙◌}
use mathlib.Core.Bool.{true}
use mathlib.Core.Logic.{◌↔◌, ◌⊎◌, inl, inr, ⊎_elim}
use mathlib.Core.List.{List}
use lib.ListN.{length}
use native.Mathlib.Omega.{arith}
use Rattle.base.specs.Finds.{Is, is}
use Rattle.base.specs.Lists.{Under, range}
use Rattle.base.specs.Search.{Res, still, done}
use Rattle.cubie.specs.Cube.{solved_cube, apply_moves, is_home}
use Rattle.cubie.specs.Solvable.{solvable}
use Rattle.cubie.specs.declared.CubieCube.{CubieCube}
use Rattle.cubie.proofs.Turns.{same-is}
use Rattle.stickers.specs.Picture.{paint, picture}
use Rattle.stickers.specs.Reader.{read_strict}
use Rattle.stickers.specs.Stickers.{corner_facelet, edge_facelet, corner_color, edge_color, solved_face}
use Rattle.stickers.proofs.Readers.{accepted, strict-exactly}
use Rattle.table_check.specs.Check.{Checks}
use Rattle.table_check.specs.declared.CheckError.TheVariants as check
use Rattle.std.proofs.Common.{Ok, Err}
use Rattle.table_check.proofs.Ten.{passes-exactly}
use Rattle.phase2_steps.specs.Rules.{Ans, solved, nothing, spent, refused}
use Rattle.phase2_steps.specs.Second.{turns2, fars2}
use Rattle.phase1_steps.specs.First.{turns1, fars1, coords1}
use Rattle.refusal.specs.declared.Refusal.{Refusal}
use Rattle.search.specs.Solve.{solve_of}
use Rattle.search.specs.declared.Found.TheVariants as found
use Rattle.search.specs.declared.Solution.{Solution}
use Rattle.demands.specs.Plain.{plain_search, list_of, SaysAs, Within, NoneShorter}
use Rattle.demands.proofs.Agreement.{solve-agrees}
use Rattle.demands.proofs.AnyTables.{short-found}
use Rattle.demands.proofs.Complete.{Both, plain-told, plain-found}
use Rattle.demands.proofs.Ends.{Good, end1-inside}
use Rattle.demands.proofs.Lengths.{Means}
use Rattle.demands.proofs.Solved.{is-searched, solved-searched, nothing-solved, refused-solved, refused-nothing, Solves, checked-solves, says-as}
use Rattle.demands.proofs.Truth.{tells1, tells2}

picture-home : picture solved_cube ≡ solved_face
unfolding picture paint range corner_facelet edge_facelet corner_color edge_color solved_cube solved_face
picture-home = refl

module _ (cube : CubieCube) (limit budget : ℕ) (moves prunes : List ℕ) where
  abbrev r : Solution
  r = solve_of cube limit budget moves prunes

  -- ---- any tables, cube, limit and budget

  solved-is : r.found ≡ found.Solved → Solves cube limit r
  solved-is h =
      let e = solved-searched cube limit budget moves prunes h in
      subst⁻¹ (Solves cube limit) e
      (checked-solves cube limit budget _ (short-found (turns1 moves) (fars1 prunes) (turns2 moves) (fars2 prunes) cube limit (coords1 cube) budget) (subst (λ (r : Solution). r.found ≡ found.Solved) e h))

  -- demand 3a: if the answer is solved, the two lists together solve the cube and are shorter than the limit
  pub solved-solves : r.found ≡ found.Solved → (is_home (apply_moves cube (list_of r)) ≡ true) × (length (list_of r) < limit)
  solved-solves h = let s = solved-is h in (s.home, s.short.size)

  -- and they are lists of moves
  pub solved-moves : r.found ≡ found.Solved → Under 18 (list_of r)
  solved-moves h = (solved-is h).short.moves

  -- ---- a solvable cube, limit 0 to 31, tables that pass the check; not spent

  module _ (w : Within cube limit moves prunes) (paid : r.found ≡ found.Spent → ⊥) where
    good : Good cube
    good = record { range = w.range; fair = w.solvable }

    -- demand 3b: the answer, lists included, is that of the plain search
    pub as_plain : SaysAs r (plain_search limit cube)
    as_plain =
        let e = is-searched cube limit budget moves prunes w.range w.solvable w.most w.tables.blocks in
        subst⁻¹ (λ (r : Solution). SaysAs r (plain_search limit cube)) e
        (says-as cube limit budget
        (solve-agrees (turns1 moves) (fars1 prunes) (turns2 moves) (fars2 prunes) limit (tells1 moves prunes w.tables) (tells2 moves prunes w.tables) end1-inside cube good budget)
        (plain-told limit cube good)
        (λ h. paid (ap (λ (r : Solution). r.found) e ∙ h)))

    -- so it is solved or none
    pub solved-or-none : (r.found ≡ found.Solved) ⊎ (r.found ≡ found.Nothing)
    unfolding SaysAs
    solved-or-none = go (plain_search limit cube) as_plain
      where
        go : (q : Res (Ans (List ℕ × List ℕ)) (Unit {0})) → SaysAs r q → (r.found ≡ found.Solved) ⊎ (r.found ≡ found.Nothing)
        go (still u) s = inr s.0
        go (done (solved l) u) s = inl s.0
        go (done nothing u) s = inr s.0
        go (done spent u) s = absurd s
        go (done refused u) s = absurd s

    -- so neither 11 nor 12 comes up
    pub no-refusal : (n : Refusal) → r.found ≡ found.Refused n → ⊥
    no-refusal n h = ⊎_elim (λ s. refused-solved n (sym h ∙ s)) (λ s. refused-nothing n (sym h ∙ s)) solved-or-none

    -- where a list of fewer moves than the limit solves the cube, one is found
    pub found-if-any : (l : List ℕ) → Under 18 l → length l < limit → is_home (apply_moves cube l) ≡ true → r.found ≡ found.Solved
    unfolding SaysAs
    found-if-any l u h e = go (plain-found limit cube good l (record { arrives = same-is _ _ e; short = record { size = h; moves = u } })) as_plain
      where
        go : {q : Res (Ans (List ℕ × List ℕ)) (Unit {0})} → Is (Means ⊥ ⊥ (Both limit cube)) q → SaysAs r q → r.found ≡ found.Solved
        go (is {a = solved k} f) s = s.0
        go (is {a = nothing} f) s = absurd f
        go (is {a = spent} f) s = absurd f
        go (is {a = refused} f) s = absurd f

    -- demand 3c: none exactly when no list of fewer moves than the limit solves the cube
    pub none-exactly : (r.found ≡ found.Nothing) ↔ NoneShorter cube limit
    none-exactly = (
      λ n l u h e. nothing-solved (sym n ∙ found-if-any l u h e),
      λ none. ⊎_elim (λ e. let s = solved-is e in absurd (none (list_of r) s.short.moves s.short.size s.home)) (λ e. e) solved-or-none,
    )

  -- ---- from stickers to stickers: what was read strictly as the cube

  module _ (s : List ℕ) (read : read_strict s ≡ accepted cube) where
    -- it is the picture of the cube, and after the moves of a solved answer the picture is the solved one
    pub closing : r.found ≡ found.Solved → (s ≡ picture cube) × (picture (apply_moves cube (list_of r)) ≡ solved_face)
    closing h = (((strict-exactly s cube).0 read).same, ap picture (same-is _ _ (solved-solves h).0) ∙ picture-home)

    -- with tables that pass the check, and unless spent: such an answer, or none and no list of fewer moves would do
    pub closing-either : Checks moves prunes (Ok tt) → limit ≤ 31 → (r.found ≡ found.Spent → ⊥)
        → ((r.found ≡ found.Solved) × (picture (apply_moves cube (list_of r)) ≡ solved_face)) ⊎ ((r.found ≡ found.Nothing) × NoneShorter cube limit)
    closing-either c l paid =
        let p = (strict-exactly s cube).0 read in
        let w : Within cube limit moves prunes = record { range = p.range; solvable = p.solvable; most = l; tables = (passes-exactly moves prunes (Ok tt) c).0 refl } in
        ⊎_elim (λ h. inl (h, (closing h).1)) (λ h. inr (h, (none-exactly w paid).0 h)) (solved-or-none w paid)

-- a higher limit turns no solved into none
pub solved-more : (cube : CubieCube) (limit more budget budget' : ℕ) (moves prunes : List ℕ) → Within cube more moves prunes → limit ≤ more → ((solve_of cube more budget' moves prunes).found ≡ found.Spent → ⊥)
    → (solve_of cube limit budget moves prunes).found ≡ found.Solved → (solve_of cube more budget' moves prunes).found ≡ found.Solved
solved-more cube limit more budget budget' moves prunes w h paid e =
    let s = solved-is cube limit budget moves prunes e in
    found-if-any cube more budget' moves prunes w paid _ s.short.moves (omega (arith, s.short.size)) s.home
