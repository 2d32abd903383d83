-- The rows of a true table: how long a row and the table are, what stands in them, and what one turn of the loops of `fill_row` and `fill` writes.
-- Assumes nothing.
use mathlib.Core.Path.{◌≡◌, sym, ap, ap₂, subst, ◌∙◌}
use mathlib.Core.List.{List, ◌++◌, append_assoc}
use Prim.Native.Nat.{ℕ, zero, suc, ◌+◌, ◌-◌, ◌*◌, ◌≤◌, ◌<◌}
use native.Mathlib.Nat.{not-suc-le-zero, le_of_suc-le-suc, zero-mul, zero-add, suc-mul}
use native.Mathlib.Omega.{arith}
use borrow.Rule.Slice.PartMut.{put_mid, same_len_mid, mid_len, take_put}
use lib.ListN.{length, get_or, take, drop, length-append}
use lib.Seq.{take_at, drop_at, drop-drop, drop-append-add, take-add, length-take-le, take_all, paste}
use Rattle.base.proofs.Product.{map-range-at, map-range-length}
use Rattle.move_row.proofs.Rows.{row-domain}
use Rattle.move_row.proofs.Six.{number-lt}
use Rattle.move_row.specs.Tables.{Table, number, table_at, columns, size, true_entry, true_row, rows_from, true_table, moved, Domain}
use Rattle.move_row.specs.declared.MoveTable.{MoveTable}
use Rattle.move_table.proofs.Bounds.{column-moves}

module _ (t : Table) where
  pub row-length : (i : ℕ) → length (true_row t i) ≡ columns t
  unfolding true_row
  row-length i = map-range-length (true_entry t i) (columns t)

  -- an entry is the coordinate after the move of its column
  pub row_at : (i j : ℕ) → j < columns t → get_or (true_row t i) j 0 ≡ moved t.kind (t.kind.arrangement i) (get_or t.moves j 0)
  unfolding true_row true_entry
  row_at i j h = map-range-at (true_entry t i) (columns t) j h

  -- what `entry_after` answers for the arrangement of row i and the move of column j
  pub entry-is : (i j m r : ℕ) (xs : List ℕ) → j < columns t → xs ≡ t.kind.arrangement i → m ≡ get_or t.moves j 0 → r ≡ moved t.kind xs m → r ≡ get_or (true_row t i) j 0
  entry-is i j m r xs h e f g = g ∙ ap₂ (moved t.kind) e f ∙ sym (row_at i j h)

  rows-length : (n i : ℕ) → length (rows_from t i n) ≡ n * columns t
  unfolding rows_from
  rows-length zero i = sym (zero-mul (columns t))
  rows-length (suc n) i =
      length-append (true_row t i) (rows_from t (suc i) n) ∙ omega (arith, row-length i, rows-length n (suc i), suc-mul n (columns t))

  pub table-length : length (true_table t) ≡ size t
  unfolding true_table
  table-length = rows-length t.kind.count 0

  rows_at : (k n i : ℕ) → k < n → take (columns t) (drop (k * columns t) (rows_from t i n)) ≡ true_row t (i + k)
  unfolding rows_from
  rows_at k zero i h = absurd (not-suc-le-zero h)
  rows_at zero (suc n) i h =
      ap (λ (s : ℕ). take (columns t) (drop s (rows_from t i (suc n)))) (zero-mul (columns t))
      ∙ take_at (true_row t i) (rows_from t (suc i) n) (columns t) (row-length i)
      ∙ ap (true_row t) (omega arith)
  rows_at (suc k) (suc n) i h =
      let rest = rows_from t (suc i) n in
      let s : suc k * columns t ≡ length (true_row t i) + k * columns t = omega (arith, row-length i, suc-mul k (columns t)) in
      ap (λ (s : ℕ). take (columns t) (drop s (true_row t i ++ rest))) s
      ∙ ap (take (columns t)) (drop-append-add (true_row t i) rest (k * columns t))
      ∙ rows_at k n (suc i) (le_of_suc-le-suc h)
      ∙ ap (true_row t) (omega arith)

  -- row k of the table
  table-row : (k : ℕ) → k < t.kind.count → take (columns t) (drop (k * columns t) (true_table t)) ≡ true_row t k
  unfolding true_table
  table-row k h = rows_at k t.kind.count 0 h ∙ ap (true_row t) (zero-add k)

  -- the same with the number of columns as `columns_of` answers it
  pub table-part : (k c : ℕ) → c ≡ columns t → k < t.kind.count → take c (drop (k * c) (true_table t)) ≡ true_row t k
  table-part k c e h = ap (λ (n : ℕ). take n (drop (k * n) (true_table t))) e ∙ table-row k h

-- what `entry_after` asks for at row i, column j of table t: its arrangement xs is in the domain, and its column's move is one
pub entry-fits : (t : MoveTable) (i j m : ℕ) (xs : List ℕ) → i < (table_at (number t)).kind.count → j < columns (table_at (number t))
    → xs ≡ (table_at (number t)).kind.arrangement i → m ≡ get_or (table_at (number t)).moves j 0 → Domain (table_at (number t)).kind xs × (m < 18)
entry-fits t i j m xs h k e f =
    (subst (λ (l : List ℕ). Domain (table_at (number t)).kind l) (sym e) (row-domain (number t) i (number-lt t) h), omega (arith, column-moves (number t) j (number-lt t) k))

-- the first k rows, c columns each, are written, and so is row k
module _ (out goal ys : List ℕ) (k c : ℕ) (fits : k * c + c ≤ length out) (e : take (k * c) out ≡ take (k * c) goal) (size : length ys ≡ c) where
  pub row_more : take c (drop (k * c) goal) ≡ ys → take ((k + 1) * c) (put_mid (k * c) (k * c + c - k * c) out ys) ≡ take ((k + 1) * c) goal
  row_more w =
      let a = k * c in
      let post = drop (a + c - a) (drop a out) in
      let n : (k + 1) * c ≡ a + c = omega arith in
      ap (λ (i : ℕ). take i (take a out ++ (ys ++ post))) n
      ∙ take-add a c (take a out ++ (ys ++ post))
      ∙ ap₂ (λ (f r : List ℕ). f ++ r) (take_put a (a + c - a) out ys (omega arith) ∙ e)
      (ap (take c) (drop_at (take a out) (ys ++ post) a (length-take-le a out (omega arith))) ∙ take_at ys post c size ∙ sym w)
      ∙ sym (ap (λ (i : ℕ). take i goal) n ∙ take-add a c goal)

  pub row_kept : length (put_mid (k * c) (k * c + c - k * c) out ys) ≡ length out
  row_kept = same_len_mid (k * c) (k * c + c - k * c) out ys (size ∙ sym (mid_len (k * c) (k * c + c) out fits ∙ omega arith))

-- a part of a block, written whole
pub put-paste : (block ys whole : List ℕ) (at n : ℕ) → ys ≡ whole → length whole ≡ n → put_mid at (at + n - at) block ys ≡ paste block at whole n
put-paste block ys whole at n e l =
    let k : at + n - at ≡ n = omega arith in
    ap₂ (λ (y : List ℕ) (k : ℕ). take at block ++ (y ++ drop k (drop at block))) e k
    ∙ sym (append_assoc (take at block) whole (drop n (drop at block)))
    ∙ ap₂ (λ (y r : List ℕ). (take at block ++ y) ++ r) (sym (take_all n whole (omega arith))) (drop-drop n at block)
