-- `prune_block::inner::fill_all` meets its contract. The loop's invariant: the tables passed are filled, and `missing` says whether one of them has a pair
-- out of reach. Assumes nothing.
use Prim.Native.Nat.{◌+◌}
use Rattle.pair_table.specs.Answers.{Decides}
use Rattle.pruning_table.proofs.Filling.{FilledTo, MissingTo}
use Rattle.prune_block.proofs.inner.fill_all.Given as goal

abbrev pub invariant-loop-t : goal.invariant-loop-t
invariant-loop-t l = FilledTo l.moves l.prunes (6 + l.t-index) × Decides (MissingTo l.prunes (6 + l.t-index)) l.missing
