-- `pair_build::inner::sweep` meets its contract.
-- The loop's invariant: what is known when the pairs below p have been passed (`Swept`), and that nothing was written while none held d. Assumes nothing.
use mathlib.Core.Path.{◌≡◌}
use mathlib.Core.Bool.{false}
use Rattle.pair_table.specs.Over.{step_by, pairs_of}
use Rattle.pair_table.proofs.Bfs.{Swept}
use Rattle.pair_build.proofs.inner.sweep.Given as goal

abbrev pub invariant-loop-p : goal.invariant-loop-p
invariant-loop-p l = Swept (step_by l.pairs) l.pairs.moves l.d (pairs_of l.pairs) l.p l.tab × (l.met ≡ false → l.tab ≡ l.initial.tab)
