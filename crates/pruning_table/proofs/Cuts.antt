-- With true tables, a pruning entry is at most d wherever d moves of its phase lead from a cube with those coordinates to an end: so that a search
-- that leaves a position whose entry is above the depth still to go leaves none from which an end is near enough. Assumes nothing.
use mathlib.Core.Path.{◌≡◌, sym, ap₂, subst, ◌∙◌}
use mathlib.Core.Bool.{true}
use mathlib.Core.List.{List, [], ◌∷◌, map}
use Prim.Native.Nat.{ℕ, zero, suc, ◌+◌, ◌*◌, ◌%◌, ◌≤◌, ◌<◌}
use native.Mathlib.Nat.{zero-mul}
use native.Mathlib.Omega.{arith}
use lib.ListN.{length, get_or}
use Rattle.base.specs.Lists.{Under, total}
use Rattle.cubie.specs.Cube.{InRange, turn, apply_moves}
use Rattle.moves.specs.Moves.{all_moves, phase2_moves}
use Rattle.cubie.specs.Solvable.{solvable}
use Rattle.cubie.specs.declared.CubieCube.{CubieCube}
use Rattle.cubie.proofs.Solvable.{Parts, solvable-parts, turn-solvable}
use Rattle.cubie.proofs.Turns.{turn-range}
use Rattle.numbering.specs.Kinds.{Kind, co, eo, e_combo, cp, ud_ep, e_ep, coordinate, after, InPhase2, Follows}
use Rattle.columns.proofs.Columns.{phase1-column, phase2-column}
use Rattle.numbering.proofs.Phases.{phase2-keeps, twists-sum, four_low, front, lowered, lowered-back, lowered-perm}
use Rattle.numbering.proofs.Phases.{co-follows, eo-follows, e-combo-follows, cp-follows, ud-ep-follows, e-ep-follows}
use Rattle.move_row.specs.Tables.{table_at, columns, true_table}
use Rattle.move_table.proofs.Entries.{entry_at}
use Rattle.move_table.proofs.Undone.{co-keeps, eo-keeps, e-combo-keeps, cp-keeps, ud-ep-keeps, e-ep-keeps}
use Rattle.pruning_table.specs.Check.{first_of, entries, part, AllTrue}
use Rattle.pair_table.specs.Pairs.{next, held, Walks, IsTrue}
use Rattle.pair_table.specs.Tables.{Closed, Undone}
use Rattle.pair_table.proofs.Steps.{in_row, row_of, col-of}
use Rattle.pruning_table.proofs.Ten.{true_step, closed_of, undone-of}

-- ---- d steps lead from p to pair 0

module _ (step : ℕ → ℕ → ℕ) (k : ℕ) where
  abbrev pub Reaches : ℕ → ℕ → Type 0
  Reaches zero p = p ≡ 0
  Reaches (suc d) p = (m : ℕ) × (m < k) × Reaches d (step p m)

  -- and the steps that undo them lead back
  pub reaches-walks : (n : ℕ) → Closed step k n → Undone step k n → (d p : ℕ) → p < n → Reaches d p → Walks step k d p
  reaches-walks n closed undone zero p l r = r
  reaches-walks n closed undone (suc d) p l (m, h, r) =
      let (m', h', back) = undone p m l h in
      (step p m, m', reaches-walks n closed undone d (step p m) (closed p m l h) r, h', back)

  pub reaches-least : (n : ℕ) → Closed step k n → Undone step k n → (dist : ℕ → ℕ) → IsTrue step k dist n → (d p : ℕ) → p < n → Reaches d p → dist p ≤ d
  reaches-least n closed undone dist t d p l r = (t p l).least d (reaches-walks n closed undone d p l r)

-- ---- cubes and pairs: two coordinates that follow the moves of their columns

module _ (k1 k2 : Kind) (moves : List ℕ) (Dom : CubieCube → Type 0) (f1 : Follows k1 moves Dom) (f2 : Follows k2 moves Dom)
    (column : (j : ℕ) → j < length moves → get_or moves j 0 < 18)
    (keeps : (c : CubieCube) → InRange c → solvable c ≡ true → Dom c → (j : ℕ) → j < length moves → Dom (turn c (get_or moves j 0)))
    (small1 : (c : CubieCube) → InRange c → solvable c ≡ true → Dom c → coordinate k1 c < k1.count)
    (small2 : (c : CubieCube) → InRange c → solvable c ≡ true → Dom c → coordinate k2 c < k2.count)
    (T1 T2 : List ℕ)
    (at1 : (i j : ℕ) → i < k1.count → j < length moves → get_or T1 (i * length moves + j) 0 ≡ after k1 i (get_or moves j 0))
    (at2 : (i j : ℕ) → i < k2.count → j < length moves → get_or T2 (i * length moves + j) 0 ≡ after k2 i (get_or moves j 0)) where
  pair : CubieCube → ℕ
  pair c = coordinate k1 c * k2.count + coordinate k2 c

  -- a move of the cube is a step of its pair
  pair_step : (c : CubieCube) → InRange c → solvable c ≡ true → Dom c → (j : ℕ) → j < length moves
      → next T1 T2 k2.count (length moves) (pair c) j ≡ pair (turn c (get_or moves j 0))
  unfolding next pair
  pair_step c r s d j h =
      let a = coordinate k1 c in
      let b = coordinate k2 c in
      let lb = small2 c r s d in
      ap₂ (λ (x y : ℕ). get_or T1 (x * length moves + j) 0 * k2.count + get_or T2 (y * length moves + j) 0) (row_of k2.count a b lb) (col-of k2.count a b lb)
      ∙ ap₂ (λ (x y : ℕ). x * k2.count + y) (at1 a j (small1 c r s d) h ∙ sym (f1 c r s d j h)) (at2 b j lb h ∙ sym (f2 c r s d j h))

  -- moves, by their columns, that lead to a cube whose two coordinates are 0
  pub path-reaches : (js : List ℕ) → Under (length moves) js → (c : CubieCube) → InRange c → solvable c ≡ true → Dom c
      → coordinate k1 (apply_moves c (map (λ j. get_or moves j 0) js)) ≡ 0 → coordinate k2 (apply_moves c (map (λ j. get_or moves j 0) js)) ≡ 0
      → Reaches (next T1 T2 k2.count (length moves)) (length moves) (length js) (coordinate k1 c * k2.count + coordinate k2 c)
  unfolding apply_moves pair
  path-reaches [] u c r s d e1 e2 = ap₂ (λ (x y : ℕ). x * k2.count + y) e1 e2 ∙ omega (arith, zero-mul k2.count)
  path-reaches (j ∷ js) u c r s d e1 e2 =
      let m = get_or moves j 0 in
      let h = column j u.0 in (
        j,
        u.0,
        subst (Reaches (next T1 T2 k2.count (length moves)) (length moves) (length js)) (sym (pair_step c r s d j u.0))
            (path-reaches js u.1 (turn c m) (turn-range r m h) (turn-solvable r s m h) (keeps c r s d j u.0) e1 e2),
      )

  pub pair-in : (c : CubieCube) → InRange c → solvable c ≡ true → Dom c → coordinate k1 c * k2.count + coordinate k2 c < k1.count * k2.count
  pair-in c r s d = in_row k1.count k2.count (coordinate k1 c) (coordinate k2 c) (small1 c r s d) (small2 c r s d)

-- ---- the coordinates of a solvable cube are below their counts

module _ (c : CubieCube) (r : InRange c) (s : solvable c ≡ true) where
  p : Parts c
  p = solvable-parts r s

  pub co-small : coordinate co c < 2187
  co-small =
      let z : total (λ x. x) c.co % 3 ≡ 0 = omega (arith, twists-sum c.co r.co.small, p.twists) in
      co-keeps.bounded c.co (r.co, z)

  pub eo-small : coordinate eo c < 2048
  eo-small = eo-keeps.bounded c.eo (r.eo, p.flips)

  pub e-combo-small : coordinate e_combo c < 495
  e-combo-small = e-combo-keeps.bounded c.ep (r.ep, four_low c r s)

  pub cp-small : coordinate cp c < 40320
  cp-small = cp-keeps.bounded c.cp p.corners

  pub ud-ep-small : InPhase2 c → coordinate ud_ep c < 40320
  ud-ep-small d =
      ud-ep-keeps.bounded c.ep
      (record {
        range = r.ep;
        order = lowered c.ep p.edges d.middle;
        perm = lowered-perm c.ep p.edges d.middle;
        is = sym (lowered-back c.ep p.edges d.middle);
      })

  pub e-ep-small : InPhase2 c → coordinate e_ep c < 24
  e-ep-small d = e-ep-keeps.bounded c.ep (r.ep, front c.ep p.edges d.middle)

-- ---- the four tables

module _ (moves prunes : List ℕ) (a : AllTrue moves prunes) where
  -- what is true of table t, and of a pair from which js lead to pair 0
  near : (t : ℕ) → (h : t < 10) → (k : 6 ≤ t) → (d q : ℕ) → q < entries t → Reaches (true_step t) (columns (table_at (first_of t))) d q → held (part t prunes) q ≤ d
  near t h k d q l w =
      reaches-least (true_step t) (columns (table_at (first_of t))) (entries t) (closed_of t h k) (undone-of t h k) (held (part t prunes)) (a.distances t h k) d q l w

  module _ (c : CubieCube) (r : InRange c) (s : solvable c ≡ true) (js : List ℕ) where
    -- by columns of phase 1, to a cube whose co, eo and e_combo are 0
    module _ (u : Under 18 js) where
      pub cut-co-e : coordinate co (apply_moves c (map (λ j. get_or all_moves j 0) js)) ≡ 0 → coordinate e_combo (apply_moves c (map (λ j. get_or all_moves j 0) js)) ≡ 0
          → held (part 6 prunes) (coordinate co c * 495 + coordinate e_combo c) ≤ length js
      cut-co-e e f =
          near 6 (omega arith) (omega arith) (length js) (coordinate co c * 495 + coordinate e_combo c) (in_row 2187 495 (coordinate co c) (coordinate e_combo c) (co-small c r s) (e-combo-small c r s))
          (path-reaches co e_combo all_moves (λ c. Unit {0}) co-follows e-combo-follows phase1-column (λ c r s d j h. tt) (λ c r s d. co-small c r s) (λ c r s d. e-combo-small c r s)
          (true_table (table_at 0)) (true_table (table_at 2)) (entry_at (table_at 0)) (entry_at (table_at 2)) js u c r s tt e f)

      pub cut-eo-e : coordinate eo (apply_moves c (map (λ j. get_or all_moves j 0) js)) ≡ 0 → coordinate e_combo (apply_moves c (map (λ j. get_or all_moves j 0) js)) ≡ 0
          → held (part 7 prunes) (coordinate eo c * 495 + coordinate e_combo c) ≤ length js
      cut-eo-e e f =
          near 7 (omega arith) (omega arith) (length js) (coordinate eo c * 495 + coordinate e_combo c) (in_row 2048 495 (coordinate eo c) (coordinate e_combo c) (eo-small c r s) (e-combo-small c r s))
          (path-reaches eo e_combo all_moves (λ c. Unit {0}) eo-follows e-combo-follows phase1-column (λ c r s d j h. tt) (λ c r s d. eo-small c r s) (λ c r s d. e-combo-small c r s)
          (true_table (table_at 1)) (true_table (table_at 2)) (entry_at (table_at 1)) (entry_at (table_at 2)) js u c r s tt e f)

    -- by columns of phase 2, from a cube of its domain
    module _ (u : Under 10 js) (d : InPhase2 c) where
      pub cut-cp-e : coordinate cp (apply_moves c (map (λ j. get_or phase2_moves j 0) js)) ≡ 0 → coordinate e_ep (apply_moves c (map (λ j. get_or phase2_moves j 0) js)) ≡ 0
          → held (part 8 prunes) (coordinate cp c * 24 + coordinate e_ep c) ≤ length js
      cut-cp-e e f =
          near 8 (omega arith) (omega arith) (length js) (coordinate cp c * 24 + coordinate e_ep c) (in_row 40320 24 (coordinate cp c) (coordinate e_ep c) (cp-small c r s) (e-ep-small c r s d))
          (path-reaches cp e_ep phase2_moves InPhase2 cp-follows e-ep-follows phase2-column phase2-keeps (λ c r s d. cp-small c r s) e-ep-small
          (true_table (table_at 3)) (true_table (table_at 5)) (entry_at (table_at 3)) (entry_at (table_at 5)) js u c r s d e f)

      pub cut-ep-e : coordinate ud_ep (apply_moves c (map (λ j. get_or phase2_moves j 0) js)) ≡ 0 → coordinate e_ep (apply_moves c (map (λ j. get_or phase2_moves j 0) js)) ≡ 0
          → held (part 9 prunes) (coordinate ud_ep c * 24 + coordinate e_ep c) ≤ length js
      cut-ep-e e f =
          near 9 (omega arith) (omega arith) (length js) (coordinate ud_ep c * 24 + coordinate e_ep c) (in_row 40320 24 (coordinate ud_ep c) (coordinate e_ep c) (ud-ep-small c r s d) (e-ep-small c r s d))
          (path-reaches ud_ep e_ep phase2_moves InPhase2 ud-ep-follows e-ep-follows phase2-column phase2-keeps ud-ep-small e-ep-small
          (true_table (table_at 4)) (true_table (table_at 5)) (entry_at (table_at 4)) (entry_at (table_at 5)) js u c r s d e f)
