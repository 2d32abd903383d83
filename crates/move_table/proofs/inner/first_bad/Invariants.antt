-- `move_table::inner::first_bad` meets its contract. The loop's invariant: the first i rows are true. Assumes nothing.
use mathlib.Core.Path.{◌≡◌}
use Prim.Native.Nat.{◌+◌, ◌*◌}
use lib.ListN.{drop}
use Rattle.move_row.specs.Tables.{number, table_at, true_table, first_off}
use Rattle.move_table.proofs.inner.first_bad.Given as goal

abbrev pub invariant-loop-i : goal.invariant-loop-i
invariant-loop-i l =
    first_off (true_table (table_at (number l.t))) l.table
    ≡ l.i * l.columns + first_off (drop (l.i * l.columns) (true_table (table_at (number l.t)))) (drop (l.i * l.columns) l.table)
