-- `move_table::inner::fill_row` meets its contract. The loop's invariant: what is written is the front of the row. Assumes nothing.
use mathlib.Core.Path.{◌≡◌}
use lib.ListN.{take}
use Rattle.move_row.specs.Tables.{number, table_at, true_row}
use Rattle.move_table.proofs.inner.fill_row.Given as goal

abbrev pub invariant-loop-j : goal.invariant-loop-j
invariant-loop-j l = take l.j l.row ≡ take l.j (true_row (table_at (number l.t)) l.i)
