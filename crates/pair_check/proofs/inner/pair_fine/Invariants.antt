-- `pair_check::inner::pair_fine` meets its contract.
-- The loop's invariant: of the first m neighbours none is below v - 1, and `one` says whether one holds v - 1. Assumes nothing.
use Rattle.pair_table.specs.Over.{step_by}
use Rattle.pair_table.specs.Pairs.{held}
use Rattle.pair_check.proofs.PairRule.{Seen}
use Rattle.pair_check.proofs.inner.pair_fine.Given as goal

abbrev pub invariant-loop-m : goal.invariant-loop-m
invariant-loop-m l = Seen (step_by l.pairs) l.pairs.moves (held l.tab) l.p l.m l.one
