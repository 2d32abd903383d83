-- What the calls answer by number: move tables by their lengths, pruning tables by what their builder answered, and the check packed into
-- one number. Any two results that a call allows are equal. Assumes nothing.
use mathlib.Core.Path.{◌≡◌, refl, sym, ap, subst, ◌∙◌}
use mathlib.Core.Bool.{true, false}
use mathlib.Core.List.{List}
use mathlib.Core.Logic.{⊎_elim}
use Prim.Native.Nat.{ℕ, ◌/◌, ◌%◌, ◌≤◌, ◌<◌}
use native.Mathlib.Omega.{arith}
use lib.Dec.{ltb}
use lib.ListN.{length}
use borrow.Author.Tests.{lt-ltb, le-ltb, eq-eqb, ne_eqb}
use Rattle.base.proofs.Perm.{less-cut}
use Rattle.base.proofs.Tests.{both_true, left_false, right-false}
use Rattle.move_table.specs.Layout.{move_block, built}
use Rattle.move_row.specs.Tables.{table_at, columns, size, true_table}
use Rattle.pair_table.specs.Answers.{Outcome, number_of}
use Rattle.pruning_table.specs.Check.{first_of, second_of, rows, entries}
use Rattle.pair_table.specs.Answers.{Built}
use Rattle.pruning_table.proofs.Four.{all-outcome-one}
use Rattle.pruning_table.proofs.Laws.{outcome-one, any-outcome-one}
use Rattle.pruning_table.proofs.Ten.{move-within, prune-within}
use Rattle.table_check.specs.Check.{Checked, Checks, checked_number}
use Rattle.table_check.specs.declared.CheckError.TheVariants as check
use Rattle.std.proofs.Common.{Ok, Err}
use Rattle.table_check.proofs.Ten.{checks-one}
use Rattle.table_calls.specs.Calls.{fits, table_number, table_left, block_number, block_left, PruneCall, PairsCall, PrunesCall, packed, CheckCall}

-- ---- move tables

module _ (t : ℕ) (before : List ℕ) where
  pub no_table : 6 ≤ t → fits t before ≡ false
  no_table h = left_false _ (le-ltb t 6 h)

  pub other-size : (length before ≡ size (table_at t) → ⊥) → fits t before ≡ false
  other-size n = right-false (ltb t 6) (ne_eqb _ _ n)

  pub unfit : fits t before ≡ false → (10 ≡ table_number t before) × (before ≡ table_left t before)
  unfit e = rw e (refl, refl)

  pub fit : t < 6 → length before ≡ size (table_at t) → (after : List ℕ) → after ≡ true_table (table_at t) → (0 ≡ table_number t before) × (after ≡ table_left t before)
  fit h l after e =
      let f : fits t before ≡ true = both_true (lt-ltb t 6 h) (eq-eqb _ _ l) in
      rw f (refl, e)

module _ (before : List ℕ) where
  pub no_block : (length before ≡ 891780 → ⊥) → (10 ≡ block_number before) × (before ≡ block_left before)
  no_block n = rw (ne_eqb (length before) 891780 n) (refl, refl)

  pub block : length before ≡ 891780 → (after : List ℕ) → after ≡ built 891780 move_block before → (0 ≡ block_number before) × (after ≡ block_left before)
  block l after e = (rw (eq-eqb (length before) 891780 l) refl, e)

-- ---- pruning tables

module _ (t : ℕ) (first second before after : List ℕ) (r : ℕ) where
  pub known : (t₀ : ℕ) → t ≡ t₀ → t₀ < 10 → 6 ≤ t₀ → (b : Built)
      → Outcome first second (rows (first_of t₀)) (rows (second_of t₀)) (columns (table_at (first_of t₀))) before after b → r ≡ number_of b
      → PruneCall t first second before after r
  known t₀ e h g b o n =
      subst (λ (x : ℕ). PruneCall x first second before after r) (sym e) (record { one_of_four = λ h' g'. (b, o, n); none = λ f. absurd (f h g) })

  pub unknown : (t < 10 → 6 ≤ t → ⊥) → r ≡ 10 → after ≡ before → PruneCall t first second before after r
  unknown f n e = record { one_of_four = λ h g. absurd (f h g); none = λ _. (n, e) }

-- any two results are equal: the number, and what the lent table holds
module _ (t : ℕ) (first second before u v : List ℕ) (r s : ℕ) (a : PruneCall t first second before u r) (b : PruneCall t first second before v s) where
  both-known : t < 10 → 6 ≤ t → (r ≡ s) × (u ≡ v)
  both-known h g =
      let (x, o, e) = a.one_of_four h g in
      let (y, p, f) = b.one_of_four h g in
      let one = outcome-one first second (rows (first_of t)) (rows (second_of t)) (columns (table_at (first_of t))) before u v x y o p in
      (e ∙ ap number_of one.0 ∙ sym f, one.1)

  both-unknown : (t < 10 → 6 ≤ t → ⊥) → (r ≡ s) × (u ≡ v)
  both-unknown n = ((a.none n).0 ∙ sym (b.none n).0, (a.none n).1 ∙ sym (b.none n).1)

  pub prune-one : (r ≡ s) × (u ≡ v)
  prune-one =
      ⊎_elim (λ x. ⊎_elim (λ y. both-unknown (λ h g. omega (arith, y.0, g))) (λ y. both-known x.0 y.0) (less-cut t 6))
      (λ x. both-unknown (λ h g. omega (arith, x.0, h))) (less-cut t 10)

pub pairs-one : (first second : List ℕ) (n1 n2 k : ℕ) (before u v : List ℕ) (r s : ℕ)
    → PairsCall first second n1 n2 k before u r → PairsCall first second n1 n2 k before v s → (r ≡ s) × (u ≡ v)
pairs-one first second n1 n2 k before u v r s (x, o, e) (y, p, f) =
    let one = any-outcome-one first second n1 n2 k before u v x y o p in (e ∙ ap number_of one.0 ∙ sym f, one.1)

pub prunes-one : (moves before u v : List ℕ) (r s : ℕ) → PrunesCall moves before u r → PrunesCall moves before v s → (r ≡ s) × (u ≡ v)
prunes-one moves before u v r s (x, o, e) (y, p, f) =
    let one = all-outcome-one moves before u v x y o p in (e ∙ ap number_of one.0 ∙ sym f, one.1)

-- ---- the check

-- no table has more entries than the block of pruning tables
pub few-entries : (t : ℕ) → t < 10 → entries t ≤ 4031685
few-entries t h = ⊎_elim (λ u. omega (arith, move-within t u.0)) (λ u. omega (arith, prune-within t h u.0)) (less-cut t 6)

module _ (moves prunes : List ℕ) where
  pub check-one : (r s : ℕ) → CheckCall moves prunes r → CheckCall moves prunes s → r ≡ s
  check-one r s (v, a, e) (w, b, f) = e ∙ ap packed (checks-one moves prunes v w a b) ∙ sym f

  -- the low byte is the paper's number
  pub low_byte : (v : Checked) → Checks moves prunes v → packed v % 256 ≡ checked_number v
  low_byte (Ok _) k = refl
  low_byte (Err check.Length) k = refl
  low_byte (Err (check.Bad t e)) k = omega (arith, k.1)

-- and above it stand the table and the entry
pub table-byte : (t e : ℕ) → t < 10 → packed (Err (check.Bad t e)) / 256 % 256 ≡ t
table-byte t e h = omega arith

pub entry-above : (t e : ℕ) → t < 10 → packed (Err (check.Bad t e)) / 65536 ≡ e
entry-above t e h = omega arith
