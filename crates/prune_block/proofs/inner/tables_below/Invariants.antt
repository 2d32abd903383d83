-- `prune_block::inner::tables_below` meets its contract. The loop's invariant: the entries of the tables passed are below their counts. Assumes nothing.
use Prim.Native.Nat.{ℕ, ◌<◌}
use Rattle.base.specs.Lists.{Under}
use Rattle.pruning_table.specs.Check.{rows, part}
use Rattle.prune_block.proofs.inner.tables_below.Given as goal

abbrev pub invariant-loop-t : goal.invariant-loop-t
invariant-loop-t l = (s : ℕ) → s < l.t-index → Under (rows s) (part s l.moves)
