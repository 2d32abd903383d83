-- `pair_build::inner::expand` meets its contract. The loop's invariant is the contract's, at the moves tried so far. Assumes nothing.
use Rattle.pair_table.specs.Answers.{Expanded}
use Rattle.pair_table.specs.Over.{step_by}
use Rattle.pair_build.proofs.inner.expand.Given as goal

abbrev pub invariant-loop-m : goal.invariant-loop-m
invariant-loop-m l = Expanded (step_by l.held) l.p l.d l.m l.initial.tab l.tab
