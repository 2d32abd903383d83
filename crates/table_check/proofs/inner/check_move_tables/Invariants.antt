-- `table_check::inner::check_move_tables` meets its contract. The loop's invariant: all tables passed are right. Assumes nothing.
use Rattle.std.proofs.Common.{List, ℕ, Ok}
use Rattle.table_check.specs.Check.{ChecksIn}
use Rattle.table_check.proofs.inner.check_move_tables.Given as goal

abbrev pub invariant-loop-t : goal.invariant-loop-t
invariant-loop-t l = (p : List ℕ) → ChecksIn 0 l.t-index l.moves p (Ok tt)
