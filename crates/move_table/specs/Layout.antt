-- Where the six move tables stand in their block, and what the builders answer. Assumes nothing: these are definitions.
use Rattle.std.specs.Prelude.{List, ◌++◌, ℕ, eqb, length, Result}
use Rattle.base.specs.Lists.{pick}
use Rattle.refusal.specs.declared.Refusal.{Refusal}
use Rattle.refusal.specs.Refusals.{checked}
use Rattle.move_row.specs.Tables.{table_at, true_table}

-- the block of the six, one after the other: 891,780 entries
unfoldable pub move_block : List ℕ
move_block =
    true_table (table_at 0)
    ++ (true_table (table_at 1) ++ (true_table (table_at 2) ++ (true_table (table_at 3) ++ (true_table (table_at 4) ++ true_table (table_at 5)))))

-- "lengths first (10)": what a builder answers where a slice of n entries is asked for, and what it leaves
abbrev pub sized_verdict : ℕ → List ℕ → Result (Unit {0}) Refusal
sized_verdict n before = checked (pick (eqb (length before) n) 0 10)

abbrev pub built : ℕ → List ℕ → List ℕ → List ℕ
built n whole before = pick (eqb (length before) n) whole before
