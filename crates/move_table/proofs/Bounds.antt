-- The six tables: how many rows, columns and entries they have. Assumes nothing.
use mathlib.Core.Path.{◌≡◌, refl, sym, ap, ap₂, ◌∙◌}
use Prim.Native.Nat.{ℕ, ◌+◌, ◌*◌, ◌≤◌, ◌<◌}
use native.Mathlib.Nat.{suc-mul, mul-le-mul_right}
use native.Mathlib.Omega.{arith}
use lib.ListN.{get_or}
use Rattle.base.specs.Lists.{Under}
use Rattle.base.proofs.Tests.{in_range-under, under_at}
use Rattle.moves.specs.Moves.{all_moves, phase2_moves}
use Rattle.move_row.specs.Tables.{table_at, columns, size}
use Rattle.move_row.proofs.Six.{by-table}

pub few-rows : (t : ℕ) → t < 6 → (table_at t).kind.count ≤ 40320
few-rows = by-table (λ t. (table_at t).kind.count ≤ 40320) (omega arith) (omega arith) (omega arith) (omega arith) (omega arith) (omega arith)

pub few-columns : (t : ℕ) → t < 6 → columns (table_at t) ≤ 18
few-columns = by-table (λ t. columns (table_at t) ≤ 18) (omega arith) (omega arith) (omega arith) (omega arith) (omega arith) (omega arith)

pub few-entries : (t : ℕ) → t < 6 → size (table_at t) ≤ 403200
few-entries = by-table (λ t. size (table_at t) ≤ 403200) (omega arith) (omega arith) (omega arith) (omega arith) (omega arith) (omega arith)

pub few-places : (t : ℕ) → t < 6 → (table_at t).kind.places ≤ 12
few-places = by-table (λ t. (table_at t).kind.places ≤ 12) (omega arith) (omega arith) (omega arith) (omega arith) (omega arith) (omega arith)

-- with the numbers that `rows_of` and `columns_of` answer: where row i ends in the n entries of a table, and that the last row ends with them
module _ {t rows cols n : ℕ} (h : t < 6) (r : rows ≡ (table_at t).kind.count) (c : cols ≡ columns (table_at t)) (l : n ≡ size (table_at t)) where
  all-rows : n ≡ rows * cols
  all-rows = l ∙ sym (ap₂ ◌*◌ r c)

  pub row_fits : {i : ℕ} → i < rows → (i * cols + cols ≤ n) × (n ≤ 403200) × (i < (table_at t).kind.count) × (i < 65536)
  row_fits {i} k =
      let e = all-rows in
      (omega (arith, suc-mul i cols, mul-le-mul_right cols k), omega (arith, few-entries t h), omega arith, omega (arith, few-rows t h))

  pub rows-done : {i : ℕ} → i ≤ rows → rows ≤ i → i * cols ≡ n
  rows-done {i} p q = let e : i ≡ rows = omega arith in ap (λ (k : ℕ). k * cols) e ∙ sym all-rows

-- the columns are moves
pub column-moves : (t j : ℕ) → t < 6 → j < columns (table_at t) → get_or (table_at t).moves j 0 < 18
column-moves t j h k =
    let first = in_range-under 18 all_moves refl in
    let second = in_range-under 18 phase2_moves refl in
    under_at 18 (table_at t).moves j (by-table (λ t. Under 18 (table_at t).moves) first first first second second second t h) k
