-- The ten tables: where each stands in its block, and what it is that all ten are true.
-- Assumes nothing: these are definitions.
use Rattle.std.specs.Prelude.{◌≡◌, List, [], ◌∷◌, ℕ, ◌*◌, ◌≤◌, ◌<◌, length, get_or, take, drop}
use Rattle.move_row.specs.Tables.{table_at, columns, size, true_table}
use Rattle.pair_table.specs.Pairs.{next, held, IsTrue}
use Rattle.pruning_table.specs.declared.PruneTable.{PruneTable}
use Rattle.pruning_table.specs.declared.PruneTable.TheVariants as table

-- ---- the layout: "Flat, row after row, in lent memory, in this order"

-- where tables 0 to 5 begin in the block of move tables, and tables 6 to 9 in that of pruning tables
abbrev pub begins_at : ℕ → ℕ
begins_at t = get_or (0 ∷ 39366 ∷ 76230 ∷ 85140 ∷ 488340 ∷ 891540 ∷ 0 ∷ 1082565 ∷ 2096325 ∷ 3064005 ∷ []) t 0

-- the number of a pruning table
abbrev pub prune_number : PruneTable → ℕ
prune_number table.CoE = 6
prune_number table.EoE = 7
prune_number table.CpE = 8
prune_number table.EpE = 9

-- the two move tables of a pruning table: 6 co_e, 7 eo_e, 8 cp_e, 9 ep_e
abbrev pub first_of : ℕ → ℕ
first_of t = get_or (0 ∷ 0 ∷ 0 ∷ 0 ∷ 0 ∷ 0 ∷ 0 ∷ 1 ∷ 3 ∷ 4 ∷ []) t 0

abbrev pub second_of : ℕ → ℕ
second_of t = get_or (0 ∷ 0 ∷ 0 ∷ 0 ∷ 0 ∷ 0 ∷ 2 ∷ 2 ∷ 5 ∷ 5 ∷ []) t 0

abbrev pub rows : ℕ → ℕ
rows t = (table_at t).kind.count

-- how many entries a table has
abbrev pub entries : ℕ → ℕ
entries t =
    get_or
    (size (table_at 0) ∷ size (table_at 1) ∷ size (table_at 2) ∷ size (table_at 3) ∷ size (table_at 4) ∷ size (table_at 5) ∷ rows 0 * rows 2
    ∷ rows 1 * rows 2 ∷ rows 3 * rows 5 ∷ rows 4 * rows 5 ∷ [])
    t 0

-- a table in its block
abbrev pub part : ℕ → List ℕ → List ℕ
part t block = take (entries t) (drop (begins_at t) block)

-- the pair after a move, as the lent move tables of pruning table t say it
abbrev pub step_of : ℕ → List ℕ → ℕ → ℕ → ℕ
step_of t moves = next (part (first_of t) moves) (part (second_of t) moves) (rows (second_of t)) (columns (table_at (first_of t)))

-- ---- lengths

-- "lent slice of the wrong length": the two blocks of 891,780 and 4,031,685 entries
pub record Blocks (moves prunes : List ℕ) : Type 0 where
  pub six : length moves ≡ 891780
  pub four : length prunes ≡ 4031685

-- ---- "all ten are true"

-- "A pruning entry is true if it is the least number of the table's moves from 0,0 to that pair": by the true move tables
pub record AllTrue (moves prunes : List ℕ) : Type 0 where
  pub blocks : Blocks moves prunes
  pub tables : (t : ℕ) → t < 6 → part t moves ≡ true_table (table_at t)
  pub distances : (t : ℕ) → t < 10 → 6 ≤ t
      → IsTrue (next (true_table (table_at (first_of t))) (true_table (table_at (second_of t))) (rows (second_of t)) (columns (table_at (first_of t))))
      (columns (table_at (first_of t))) (held (part t prunes)) (entries t)
