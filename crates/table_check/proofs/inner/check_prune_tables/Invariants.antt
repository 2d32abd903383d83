-- `table_check::inner::check_prune_tables` meets its contract. The loop's invariant: all pruning tables passed are right. Assumes nothing.
use Rattle.std.proofs.Common.{◌+◌, Ok}
use Rattle.table_check.specs.Check.{ChecksIn}
use Rattle.table_check.proofs.inner.check_prune_tables.Given as goal

abbrev pub invariant-loop-t : goal.invariant-loop-t
invariant-loop-t l = ChecksIn 6 (6 + l.t-index) l.moves l.prunes (Ok tt)
