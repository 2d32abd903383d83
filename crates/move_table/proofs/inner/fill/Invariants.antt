-- `move_table::inner::fill` meets its contract. The loop's invariant: the first i rows are written. Assumes nothing.
use mathlib.Core.Path.{◌≡◌}
use Prim.Native.Nat.{◌*◌}
use lib.ListN.{take}
use Rattle.move_row.specs.Tables.{number, table_at, true_table}
use Rattle.move_table.proofs.inner.fill.Given as goal

abbrev pub invariant-loop-i : goal.invariant-loop-i
invariant-loop-i l = take (l.i * l.columns) l.table ≡ take (l.i * l.columns) (true_table (table_at (number l.t)))
