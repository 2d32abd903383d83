-- `move_table::inner::bad_in_row` meets its contract. The loop's invariant: the entries before j are true. Assumes nothing.
use mathlib.Core.Path.{◌≡◌}
use Prim.Native.Nat.{◌+◌}
use lib.ListN.{drop}
use Rattle.move_row.specs.Tables.{number, table_at, true_row, first_off}
use Rattle.move_table.proofs.inner.bad_in_row.Given as goal

abbrev pub invariant-loop-j : goal.invariant-loop-j
invariant-loop-j l =
    first_off (true_row (table_at (number l.t)) l.i) l.row ≡ l.j + first_off (drop l.j (true_row (table_at (number l.t)) l.i)) (drop l.j l.row)
