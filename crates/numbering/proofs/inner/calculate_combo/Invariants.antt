-- `numbering::inner::calculate_combo` meets its contract. The loop's invariant: the result is n over i. Assumes nothing.
use mathlib.Core.Path.{◌≡◌}
use Rattle.base.specs.Combo.{choose}
use Rattle.numbering.proofs.inner.calculate_combo.Given as goal

abbrev pub invariant-loop-i : goal.invariant-loop-i
invariant-loop-i l = l.result ≡ choose l.n l.i
