-- `permutation::inner::raise` meets its contract. The loop's invariant: the places passed are raised, the others are as they came. Assumes nothing.
use mathlib.Core.Path.{◌≡◌}
use Rattle.numbering.proofs.Fill.{raised}
use Rattle.permutation.proofs.inner.raise.Given as goal

abbrev pub invariant-loop-x : goal.invariant-loop-x
invariant-loop-x l = l.s ≡ raised l.d l.x-index l.initial.s
