-- What the plain search finds leads home, in fewer moves than the limit; and where some list of fewer moves leads home, it finds one.
-- Assumes nothing.
use Prim.Native.Nat.{ℕ, ◌+◌, ◌-◌, ◌<◌, ◌≤◌}
use mathlib.Core.Path.{◌≡◌, refl, sym, ap, subst⁻¹, ◌∙◌}
use mathlib.Core.Bool.{Bool, true}
use mathlib.Core.List.{List, [], ◌∷◌, ◌++◌}
use lib.ListN.{length, length-append}
use native.Mathlib.Omega.{arith}
use Rattle.base.specs.Finds.{Says, says, Is, is, Ended, Hits}
use Rattle.base.specs.Search.{Res, done, branch, enter, plain}
use Rattle.base.proofs.Finds.{in-range, range-in, says_any, says-ended, branch-says, deepen-says, deepen-is, enter-hits, plain-says}
use Rattle.cubie.specs.Cube.{solved_cube, turn, apply_moves}
use Rattle.cubie.specs.declared.CubieCube.{CubieCube}
use Rattle.columns.proofs.Columns.{phase1-column, phase2-column}
use Rattle.moves.specs.Moves.{is_available}
use Rattle.phase2_steps.specs.Rules.{Ans, solved, nothing, Shape, phase1, phase2}
use Rattle.phase1_steps.specs.First.{full_of}
use Rattle.demands.specs.Plain.{Position, from, is_end1, is_end2, plain_of, plain2, plain_finish, plain1, plain_search}
use Rattle.search.proofs.Cubes.{moves-append}
use Rattle.demands.proofs.Agreement.{move-more}
use Rattle.demands.proofs.Canonical.{Fits, canonical}
use Rattle.demands.proofs.Ends.{Good, Inside, good_turn, inside-turn, end1-inside, only-home, home_ends, column-back}
use Rattle.demands.proofs.Lengths.{Grown, grown-none, grown-more, Short, short-grown, short-both, full-reached, full-not, Means, under-says, under-ended}

-- ---- what is found leads home

-- after the moves of its list from y, with d of n moves to go
record Made (y : CubieCube) (n d : ℕ) (t : Position) : Type 0 where
  cube : t.cube ≡ apply_moves y t.list
  grown : Grown n d t.list

start : (y : CubieCube) (n last : ℕ) → Made y n n (from y last)
start y n last = record { cube = unfold apply_moves in refl; grown = grown-none n }

-- what one length of a phase says; E: what its moves keep
phase-says : {L : Type 0} {P : Ans L → Type 0} (sh : Shape) (is_end : CubieCube → Bool) (finish : Position → Unit {0} → Res (Ans L) (Unit {0})) (E : CubieCube → Type 0) → ((j : ℕ) → j < sh.w → sh.name j < 18) → ((z : CubieCube) (j : ℕ) → j < sh.w → E z → E (turn z (sh.name j))) → (y : CubieCube) (n : ℕ) → ((t : Position) → Made y n 0 t → E t.cube → is_end t.cube ≡ true → (u : Unit {0}) → Says P (finish t u)) → (d : ℕ) (t : Position) → Made y n d t → E t.cube → (u : Unit {0}) → Says P (enter (plain (plain_of sh is_end finish)) d t u)
phase-says sh is_end finish E named keeps y n last d t m e u =
    plain-says (plain_of sh is_end finish) (λ d t. Made y n d t × E t.cube)
    (λ d t j i h.
    let low : j < sh.w = omega (arith, range-in j 0 sh.w i) in (
      record {
        cube = ap (λ (z : CubieCube). turn z (sh.name j)) h.0.cube ∙ move-more y t.list (sh.name j);
        grown = grown-more (sh.name j) (named j low) h.0.grown;
      },
      keeps t.cube j low h.1,
    ))
    (λ t h a v. last t h.0 h.1 a v) d t (m, e) u

-- l is a list of fewer than n moves that leads home from y
pub record Leads (y : CubieCube) (n : ℕ) (l : List ℕ) : Type 0 where
  pub arrives : apply_moves y l ≡ solved_cube
  pub short : Short n l

module _ (limit : ℕ) where
  -- the two lists, one after the other
  abbrev pub Both : CubieCube → List ℕ × List ℕ → Type 0
  Both y l = Leads y limit (l.0 ++ l.1)

  second-says : (z : CubieCube) → Inside z → (n d last : ℕ) → d < n → (u : Unit {0}) → Says (Means ⊥ ⊥ (Leads z n)) (enter (plain plain2) d (from z last) u)
  second-says z g n d last l u =
      phase-says phase2 is_end2 (λ t. done (solved t.list)) Inside phase2-column (λ z j h i. inside-turn i j h)
      z d (λ t m i a v. says (record { arrives = sym m.cube ∙ only-home t.cube i a; short = short-grown l m.grown }))
      d (from z last) (start z d last) g u

  -- one length n of phase 1; it finds nothing early only if n is the limit
  finish-says : (N : Type 0) (y : CubieCube) (n : ℕ) → (limit ≤ n → N) → (t : Position) → Made y n 0 t → Good t.cube → is_end1 t.cube ≡ true → (u : Unit {0}) → Says (Means N ⊥ (Both y)) (plain_finish limit t u)
  unfolding plain_finish
  finish-says N y n f t m g e u =
      branch-says (full_of limit (length t.list)) (done nothing) _ u
      (λ a. says (f (omega (arith, full-reached limit (length t.list) a, m.grown.size))))
      (under-says (Leads t.cube (limit - length t.list)) (Both y) (λ l. (t.list, l)) (λ z. absurd z)
      (λ l h. record {
        arrives = moves-append y t.list l ∙ ap (λ (z : CubieCube). apply_moves z l) (sym m.cube) ∙ h.arrives;
        short = short-both m.grown h.short;
      })
      (deepen-says _ 0 (limit - length t.list) (λ d l v. second-says t.cube (end1-inside t.cube g e) (limit - length t.list) d t.last (omega arith) v) u))

  first_says : (N : Type 0) (y : CubieCube) → Good y → (n : ℕ) → (limit ≤ n → N) → (u : Unit {0}) → Says (Means N ⊥ (Both y)) (enter (plain (plain1 limit)) n (from y 18) u)
  first_says N y g n f u =
      phase-says phase1 is_end1 (plain_finish limit) Good phase1-column (λ z j h i. good_turn i (phase1.name j) (phase1-column j h))
      y n (finish-says N y n f) n (from y 18) (start y n 18) g u

  -- whatever is answered
  pub plain-told : (y : CubieCube) → Good y → Says (Means (Unit {0}) ⊥ (Both y)) (plain_search limit y)
  unfolding plain_search
  plain-told y g = deepen-says _ 0 (limit + 1) (λ d l u. first_says (Unit {0}) y g d (λ e. tt) u) tt

  -- ---- what leads home is found

  finish-ends : (t : Position) → t.cube ≡ solved_cube → length t.list < limit → (u : Unit {0}) → Ended (plain_finish limit t u)
  unfolding plain_finish branch Hits
  finish-ends t e h u =
      rw (full-not limit (length t.list) h)
      (under-ended (λ l. (t.list, l))
      (deepen-is _ 0 0 (limit - length t.list) (omega arith) (omega arith) (λ i l v. says_any _)
      (λ v. enter-hits plain2 0 (from t.cube t.last) (ap is_end2 e ∙ home_ends.1, λ w. is tt) v) u))

  path-hits : (l : List ℕ) (y : CubieCube) (last : ℕ) (before : List ℕ) → Fits last l → apply_moves y l ≡ solved_cube → length before + length l < limit → Hits (plain1 limit) (length l) (record { cube = y; last = last; list = before })
  unfolding Fits apply_moves Hits
  path-hits [] y last before f e h = (ap is_end1 e ∙ home_ends.0, λ u. finish-ends (record { cube = y; last = last; list = before }) e (omega arith) u)
  path-hits (m ∷ l) y last before f e h =
      let j = phase1.name m in
      let rest = path-hits l (turn y m) m (before ++ (m ∷ [])) f.2 e (omega (arith, length-append before (m ∷ []))) in
      let on = subst⁻¹ (λ (k : ℕ). (is_available last k ≡ true) × Hits (plain1 limit) (length l) (record { cube = turn y k; last = k; list = before ++ (k ∷ []) })) (column-back m f.0) (f.1, rest) in
      (j, in-range j 0 18 (omega arith) (omega (arith, phase1-column m f.0)), on.0, on.1)

  -- a list of fewer moves than the limit, each available after the one before it
  path-found : (y : CubieCube) → Good y → (l : List ℕ) → Fits 18 l → length l < limit → apply_moves y l ≡ solved_cube → Is (Means ⊥ ⊥ (Both y)) (plain_search limit y)
  unfolding plain_search
  path-found y g l f h e =
      deepen-is _ (length l) 0 (limit + 1) (omega arith) (omega arith) (λ i r u. first_says ⊥ y g i (λ q. omega arith) u)
      (λ u. says-ended (first_says ⊥ y g (length l) (λ q. omega arith) u) (enter-hits (plain1 limit) (length l) (from y 18) (path-hits l y 18 [] f e (omega arith)) u)) tt

  -- any list of fewer moves than the limit
  pub plain-found : (y : CubieCube) → Good y → (l : List ℕ) → Leads y limit l → Is (Means ⊥ ⊥ (Both y)) (plain_search limit y)
  plain-found y g l h =
      let c = canonical l h.short.moves in
      path-found y g c.list c.fits (omega (arith, c.short, h.short.size)) (c.same y g.range ∙ h.arrives)
