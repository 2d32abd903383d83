-- The entries of the true tables, by row and column: below their counts, and taken back by the inverse column. Assumes nothing.
use mathlib.Core.Path.{◌≡◌, refl, sym, ap, ◌∙◌}
use mathlib.Core.Bool.{Bool, true, ◌&&◌}
use mathlib.Core.List.{List, [], ◌∷◌}
use Prim.Native.Nat.{ℕ, zero, suc, ◌+◌, ◌*◌, ◌/◌, ◌%◌, ◌<◌}
use native.Mathlib.Nat.{zero-lt-suc, mod-lt, div-lt_iff_lt-mul, div-add-mod'}
use native.Mathlib.Omega.{arith}
use lib.Dec.{ltb, eqb}
use lib.ListN.{length, get_or, drop}
use lib.Seq.{get_or-take, get_or-drop}
use borrow.Author.Tests.{eqb-true, ltb-true}
use Rattle.base.specs.Lists.{all_below, Under}
use Rattle.base.proofs.Tests.{and-true, below_true}
use Rattle.moves.specs.Moves.{inverse_move, all_moves, phase2_moves}
use Rattle.numbering.specs.Kinds.{after}
use Rattle.move_row.specs.Tables.{Table, table_at, columns, true_table}
use Rattle.move_table.proofs.Rows.{row_at, table-part, table-length}
use Rattle.move_row.proofs.Six.{by-table}
use Rattle.move_table.proofs.Undone.{after_small, after-undone, co-keeps, eo-keeps, e-combo-keeps, cp-keeps, ud-ep-keeps, e-ep-keeps}

-- row i, column j
pub entry_at : (t : Table) (i j : ℕ) → i < t.kind.count → j < columns t → get_or (true_table t) (i * columns t + j) 0 ≡ after t.kind i (get_or t.moves j 0)
entry_at t i j h l =
    sym (get_or-drop (i * columns t) (true_table t) j 0) ∙ sym (get_or-take (columns t) (drop (i * columns t) (true_table t)) j 0 l)
    ∙ ap (λ (r : List ℕ). get_or r j 0) (table-part t i (columns t) refl h) ∙ row_at t i j l

-- ---- below the count

abbrev Small : ℕ → Type 0
Small t = (i : ℕ) → i < (table_at t).kind.count → (j : ℕ) → j < columns (table_at t) → after (table_at t).kind i (get_or (table_at t).moves j 0) < (table_at t).kind.count

smalls : (t : ℕ) → t < 6 → Small t
smalls = by-table Small (after_small co-keeps) (after_small eo-keeps) (after_small e-combo-keeps) (after_small cp-keeps) (after_small ud-ep-keeps) (after_small e-ep-keeps)

under-each : (n : ℕ) (xs : List ℕ) → ((i : ℕ) → i < length xs → get_or xs i 0 < n) → Under n xs
under-each n [] h = tt
under-each n (x ∷ xs) h = (h 0 (zero-lt-suc (length xs)), under-each n xs (λ i l. h (suc i) (omega arith)))

pub entries-small : (t : ℕ) → t < 6 → 0 < columns (table_at t) → Under (table_at t).kind.count (true_table (table_at t))
entries-small t h pos =
    under-each (table_at t).kind.count (true_table (table_at t))
    (λ p l.
    let c = columns (table_at t) in
    let i : p / c < (table_at t).kind.count = (div-lt_iff_lt-mul pos).1 (omega (arith, table-length (table_at t))) in
    let j : p % c < c = mod-lt p pos in
    rw (← div-add-mod' p c, entry_at (table_at t) (p / c) (p % c) i j) (smalls t h (p / c) i (p % c) j))

-- ---- taken back

-- the column of the inverse of each column's move, in the two orders of columns: B3 stands before B2 in the first
abbrev backs : ℕ → List ℕ
backs zero = 2 ∷ 1 ∷ 0 ∷ 5 ∷ 4 ∷ 3 ∷ 8 ∷ 7 ∷ 6 ∷ 11 ∷ 10 ∷ 9 ∷ 14 ∷ 13 ∷ 12 ∷ 16 ∷ 15 ∷ 17 ∷ []
backs (suc n) = 2 ∷ 1 ∷ 0 ∷ 5 ∷ 4 ∷ 3 ∷ 6 ∷ 7 ∷ 8 ∷ 9 ∷ []

back-fine : List ℕ → List ℕ → ℕ → Bool
back-fine moves back j = ltb (get_or back j 0) (length moves) && eqb (get_or moves (get_or back j 0) 0) (inverse_move (get_or moves j 0))

backs-fine : all_below (back-fine all_moves (backs 0)) 18 && all_below (back-fine phase2_moves (backs 1)) 10 ≡ true
unfolding back-fine inverse_move
backs-fine = refl

-- a column takes another back
pub record Back (moves : List ℕ) (j : ℕ) : Type 0 where
  pub column : ℕ
  pub within : column < length moves
  pub inverse : get_or moves column 0 ≡ inverse_move (get_or moves j 0)

back-of : (moves back : List ℕ) → all_below (back-fine moves back) (length moves) ≡ true → (j : ℕ) → j < length moves → Back moves j
unfolding back-fine
back-of moves back e j h =
    let a = and-true (ltb (get_or back j 0) (length moves)) _ (below_true (back-fine moves back) (length moves) e j h) in
    record { column = get_or back j 0; within = ltb-true _ _ a.0; inverse = eqb-true _ _ a.1 }

pub all_back : (j : ℕ) → j < 18 → Back all_moves j
all_back = back-of all_moves (backs 0) (and-true (all_below (back-fine all_moves (backs 0)) 18) _ backs-fine).0

pub phase2-back : (j : ℕ) → j < 10 → Back phase2_moves j
phase2-back = back-of phase2_moves (backs 1) (and-true (all_below (back-fine all_moves (backs 0)) 18) _ backs-fine).1

abbrev TakenBack : ℕ → Type 0
TakenBack t = (n : ℕ) → n < (table_at t).kind.count → (j i : ℕ) → j < columns (table_at t) → i < columns (table_at t)
    → get_or (table_at t).moves i 0 ≡ inverse_move (get_or (table_at t).moves j 0)
    → after (table_at t).kind (after (table_at t).kind n (get_or (table_at t).moves j 0)) (get_or (table_at t).moves i 0) ≡ n

taken_back : (t : ℕ) → t < 6 → TakenBack t
taken_back = by-table TakenBack (after-undone co-keeps) (after-undone eo-keeps) (after-undone e-combo-keeps) (after-undone cp-keeps) (after-undone ud-ep-keeps) (after-undone e-ep-keeps)

pub entry-back : (t : ℕ) → t < 6 → (n j i : ℕ) → n < (table_at t).kind.count → j < columns (table_at t) → i < columns (table_at t)
    → get_or (table_at t).moves i 0 ≡ inverse_move (get_or (table_at t).moves j 0)
    → get_or (true_table (table_at t)) (get_or (true_table (table_at t)) (n * columns (table_at t) + j) 0 * columns (table_at t) + i) 0 ≡ n
entry-back t h n j i ln lj li e =
    let T = true_table (table_at t) in
    let c = columns (table_at t) in
    let a = after (table_at t).kind n (get_or (table_at t).moves j 0) in
    ap (λ (b : ℕ). get_or T (b * c + i) 0) (entry_at (table_at t) n j ln lj)
    ∙ entry_at (table_at t) a i (smalls t h n ln j lj) li
    ∙ taken_back t h n ln j i lj li e
