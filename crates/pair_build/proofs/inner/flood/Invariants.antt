-- `pair_build::inner::flood` meets its contract. The loop's invariant: the pairs within d moves are found.
-- A sweep that met no pair changed nothing, and then no walk leads on (`stuck`). Assumes nothing.
use Rattle.pair_table.specs.Over.{LayerBy}
use Rattle.pair_build.proofs.inner.flood.Given as goal

abbrev pub invariant-loop-d : goal.invariant-loop-d
invariant-loop-d l = LayerBy l.pairs l.d l.tab
