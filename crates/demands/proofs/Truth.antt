-- Tables that are true tell the truth: they follow the coordinates of a solvable cube, and cut no position from which an end is near enough.
-- Assumes nothing.
use Prim.Native.Nat.{ℕ, zero, suc, ◌+◌, ◌*◌, ◌≤◌, ◌<◌}
use mathlib.Core.Path.{◌≡◌, refl, sym, ap, subst, ◌∙◌}
use mathlib.Core.Bool.{Bool, true, false}
use mathlib.Core.List.{List, [], ◌∷◌, map}
use lib.ListN.{length, get_or}
use native.Mathlib.Omega.{arith}
use borrow.Author.Tests.{lt-ltb, ltb-true}
use Rattle.base.specs.Lists.{Under}
use Rattle.base.proofs.Tests.{both_true}
use Rattle.cubie.specs.Cube.{turn, apply_moves}
use Rattle.cubie.specs.Solvable.{solvable}
use Rattle.cubie.specs.declared.CubieCube.{CubieCube}
use Rattle.numbering.specs.Kinds.{InPhase2, Follows, coordinate, co, eo, e_combo, cp, ud_ep, e_ep}
use Rattle.columns.proofs.Columns.{phase1-column}
use Rattle.numbering.proofs.Phases.{co-follows, eo-follows, e-combo-follows, cp-follows, ud-ep-follows, e-ep-follows}
use Rattle.move_row.specs.Tables.{table_at, columns}
use Rattle.move_table.proofs.Entries.{entry_at}
use Rattle.pruning_table.specs.Check.{part, AllTrue}
use Rattle.pair_table.specs.Pairs.{held}
use Rattle.pruning_table.proofs.Cuts.{co-small, eo-small, e-combo-small, cp-small, ud-ep-small, e-ep-small, cut-co-e, cut-eo-e, cut-cp-e, cut-ep-e}
use Rattle.phase2_steps.specs.Rules.{Shape, phase1, phase2, Fars, Coords, below_of, cut_of, go_of}
use Rattle.phase2_steps.specs.Second.{turns2, fars2, coords2}
use Rattle.phase1_steps.specs.First.{turns1, fars1, coords1}
use Rattle.demands.specs.Plain.{is_end1, is_end2}
use Rattle.demands.proofs.Agreement.{NoPath, Tells}
use Rattle.demands.proofs.Ends.{Good, Inside, good_turn, inside-turn, ends-zero}

-- ---- a position is left only if no end is near enough

-- where no list of d columns leads to an end
no-path : (sh : Shape) (is_end : CubieCube → Bool) (d : ℕ) (y : CubieCube) → ((js : List ℕ) → Under sh.w js → length js ≡ d → is_end (apply_moves y (map sh.name js)) ≡ true → ⊥) → NoPath sh is_end d y
unfolding NoPath apply_moves
no-path sh is_end zero y h = go (is_end y) (h [] tt refl)
  where
    go : (b : Bool) → (b ≡ true → ⊥) → b ≡ false
    go true n = absurd (n refl)
    go false n = refl
no-path sh is_end (suc d) y h = λ j l. no-path sh is_end d (turn y (sh.name j)) (λ js u e q. h (j ∷ js) (l, u) (ap suc e) q)

-- past the end of a table the check reads 255, and the search 0
held-most : (tab : List ℕ) (p : ℕ) → get_or tab p 0 ≤ held tab p
held-most [] p = omega arith
held-most (x ∷ tab) zero = omega arith
held-most (x ∷ tab) (suc p) = held-most tab p

cut-clash : (sh : Shape) (f : Fars) (x : Coords) (d : ℕ) → held f.pa (x.a * sh.nc + x.c) ≤ d → held f.pb (x.b * sh.nc + x.c) ≤ d → cut_of sh f x d ≡ true → ⊥
unfolding cut_of
cut-clash sh f x d p q e =
    omega (arith, ltb-true d _ e, held-most f.pa (x.a * sh.nc + x.c), held-most f.pb (x.b * sh.nc + x.c))

-- ---- the coordinates are below their counts

below_all : (sh : Shape) (x : Coords) → x.a < sh.na → x.b < sh.nb → x.c < sh.nc → below_of sh x ≡ true
unfolding below_of
below_all sh x a b c = both_true (lt-ltb _ _ a) (both_true (lt-ltb _ _ b) (lt-ltb _ _ c))

coords-path : {x y : Coords} → x.a ≡ y.a → x.b ≡ y.b → x.c ≡ y.c → x ≡ y
coords-path p q r = λ i. record { a = p i; b = q i; c = r i }

module _ (moves prunes : List ℕ) (a : AllTrue moves prunes) where
  -- what table t holds for a cube and a column
  entry-after : (t : ℕ) → t < 6 → (Dom : CubieCube → Type 0) → Follows (table_at t).kind (table_at t).moves Dom → (c : CubieCube) → Good c → Dom c → coordinate (table_at t).kind c < (table_at t).kind.count → (j : ℕ) → j < columns (table_at t)
      → get_or (part t moves) (coordinate (table_at t).kind c * columns (table_at t) + j) 0 ≡ coordinate (table_at t).kind (turn c (get_or (table_at t).moves j 0))
  entry-after t h Dom follows c g d l j k =
      ap (λ (table : List ℕ). get_or table (coordinate (table_at t).kind c * columns (table_at t) + j) 0) (a.tables t h)
      ∙ entry_at (table_at t) (coordinate (table_at t).kind c) j l k
      ∙ sym (follows c g.range g.fair d j k)

  pub tells1 : Tells phase1 (turns1 moves) (fars1 prunes) coords1 is_end1 Good
  unfolding is_end1 go_of turns1 fars1
  tells1 =
      record {
        ends = λ y. refl;
        keeps = λ y g j h. good_turn g (phase1.name j) (phase1-column j h);
        below = λ y g. below_all phase1 (coords1 y) (co-small y g.range g.fair) (eo-small y g.range g.fair) (e-combo-small y g.range g.fair);
        steps = λ y g j h.
            coords-path (entry-after 0 (omega arith) (λ c. Unit {0}) co-follows y g tt (co-small y g.range g.fair) j h)
            (entry-after 1 (omega arith) (λ c. Unit {0}) eo-follows y g tt (eo-small y g.range g.fair) j h)
            (entry-after 2 (omega arith) (λ c. Unit {0}) e-combo-follows y g tt (e-combo-small y g.range g.fair) j h);
        cuts = λ y g d q.
            no-path phase1 is_end1 d y
            (λ js u e z.
            let end = ends-zero (coords1 (apply_moves y (map phase1.name js))) z in
            let near = cut-co-e moves prunes a y g.range g.fair js u end.0 end.2 in
            let near2 = cut-eo-e moves prunes a y g.range g.fair js u end.1 end.2 in
            cut-clash phase1 (fars1 prunes) (coords1 y) d (subst (λ (n : ℕ). held (part 6 prunes) (coordinate co y * 495 + coordinate e_combo y) ≤ n) e near) (subst (λ (n : ℕ). held (part 7 prunes) (coordinate eo y * 495 + coordinate e_combo y) ≤ n) e near2) q);
      }

  pub tells2 : Tells phase2 (turns2 moves) (fars2 prunes) coords2 is_end2 Inside
  unfolding is_end2 go_of turns2 fars2
  tells2 =
      record {
        ends = λ y. refl;
        keeps = λ y i j h. inside-turn i j h;
        below = λ y i. below_all phase2 (coords2 y) (cp-small y i.good.range i.good.fair) (ud-ep-small y i.good.range i.good.fair i.phase) (e-ep-small y i.good.range i.good.fair i.phase);
        steps = λ y i j h.
            coords-path (entry-after 3 (omega arith) InPhase2 cp-follows y i.good i.phase (cp-small y i.good.range i.good.fair) j h)
            (entry-after 4 (omega arith) InPhase2 ud-ep-follows y i.good i.phase (ud-ep-small y i.good.range i.good.fair i.phase) j h)
            (entry-after 5 (omega arith) InPhase2 e-ep-follows y i.good i.phase (e-ep-small y i.good.range i.good.fair i.phase) j h);
        cuts = λ y i d q.
            no-path phase2 is_end2 d y
            (λ js u e z.
            let end = ends-zero (coords2 (apply_moves y (map phase2.name js))) z in
            let near = cut-cp-e moves prunes a y i.good.range i.good.fair js u i.phase end.0 end.2 in
            let near2 = cut-ep-e moves prunes a y i.good.range i.good.fair js u i.phase end.1 end.2 in
            cut-clash phase2 (fars2 prunes) (coords2 y) d (subst (λ (n : ℕ). held (part 8 prunes) (coordinate cp y * 24 + coordinate e_ep y) ≤ n) e near) (subst (λ (n : ℕ). held (part 9 prunes) (coordinate ud_ep y * 24 + coordinate e_ep y) ≤ n) e near2) q);
      }
