-- `pair_check::inner::first_bad` meets its contract. The loop's invariant: the rule holds at every pair passed. Assumes nothing.
use Prim.Native.Nat.{ℕ, ◌<◌}
use Rattle.pair_table.specs.Over.{step_by}
use Rattle.pair_table.specs.Pairs.{held, Fine}
use Rattle.pair_check.proofs.inner.first_bad.Given as goal

abbrev pub invariant-loop-p : goal.invariant-loop-p
invariant-loop-p l = (q : ℕ) → q < l.p → Fine (step_by l.pairs) l.pairs.moves (held l.tab) q
