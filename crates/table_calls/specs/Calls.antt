-- The builders and the check of the tables by the tables' numbers, on lent memory: what a call returns, and what it leaves.
-- Assumes nothing: these are definitions.
use Rattle.std.specs.Prelude.{◌≡◌, Bool, ◌&&◌, List, ℕ, ◌+◌, ◌*◌, ◌≤◌, ◌<◌, ltb, eqb, length, Ok, Err}
use Rattle.base.specs.Lists.{pick}
use Rattle.move_table.specs.Layout.{move_block}
use Rattle.move_row.specs.Tables.{table_at, columns, size, true_table}
use Rattle.pair_table.specs.Answers.{Built, Outcome, AnyOutcome, number_of}
use Rattle.pruning_table.specs.Block.{AllOutcome}
use Rattle.pruning_table.specs.Check.{first_of, second_of, rows}
use Rattle.table_check.specs.Check.{Checked, Checks}
use Rattle.table_check.specs.declared.CheckError.TheVariants as check

-- ---- move tables: 0 where the lent slice is of the right length, else "lent slice of the wrong length", 10

-- a number above 5 is no move table's, so that no length fits
abbrev pub fits : ℕ → List ℕ → Bool
fits t table = ltb t 6 && eqb (length table) (size (table_at t))

abbrev pub table_number : ℕ → List ℕ → ℕ
table_number t before = pick (fits t before) 0 10

abbrev pub table_left : ℕ → List ℕ → List ℕ
table_left t before = pick (fits t before) (true_table (table_at t)) before

-- all six in their block of 891,780 entries
abbrev pub block_number : List ℕ → ℕ
block_number before = pick (eqb (length before) 891780) 0 10

abbrev pub block_left : List ℕ → List ℕ
block_left before = pick (eqb (length before) 891780) move_block before

-- ---- pruning tables

-- what the builder of table t answered, by the paper's number; a number that is no pruning table's has no length that fits
pub record PruneCall (t : ℕ) (first second before after : List ℕ) (r : ℕ) : Type 0 where
  pub one_of_four : t < 10 → 6 ≤ t
      → (b : Built) × Outcome first second (rows (first_of t)) (rows (second_of t)) (columns (table_at (first_of t))) before after b × (r ≡ number_of b)
  pub none : (t < 10 → 6 ≤ t → ⊥) → (r ≡ 10) × (after ≡ before)

-- the same of two move tables of any counts
abbrev pub PairsCall : List ℕ → List ℕ → ℕ → ℕ → ℕ → List ℕ → List ℕ → ℕ → Type 0
PairsCall first second rows1 rows2 moves before after r =
    (b : Built) × AnyOutcome first second rows1 rows2 moves before after b × (r ≡ number_of b)

-- all four in their block
abbrev pub PrunesCall : List ℕ → List ℕ → List ℕ → ℕ → Type 0
PrunesCall moves before after r = (b : Built) × AllOutcome moves before after b × (r ≡ number_of b)

-- ---- the check of all ten

-- the paper's number is the low byte; above it stand the lowest bad table, in a byte, and its lowest bad entry
abbrev pub packed : Checked → ℕ
packed (Ok _) = 0
packed (Err check.Length) = 10
packed (Err (check.Bad t e)) = 13 + 256 * t + 65536 * e

abbrev pub CheckCall : List ℕ → List ℕ → ℕ → Type 0
CheckCall moves prunes r = (v : Checked) × Checks moves prunes v × (r ≡ packed v)
