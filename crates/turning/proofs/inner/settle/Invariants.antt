-- `turning::inner::settle` meets its contract. The loop's invariant: nothing is changed yet, and no place passed holds i. Assumes nothing.
use mathlib.Core.Path.{◌≡◌}
use Rattle.base.proofs.Selection.{Passed}
use Rattle.turning.proofs.inner.settle.Given as goal

abbrev pub invariant-loop-j : goal.invariant-loop-j
invariant-loop-j l = (l.p ≡ l.initial.p) × Passed l.i l.j l.initial.p
