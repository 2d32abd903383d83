-- `turning::inner::twist` meets its contract. The loop's invariant: what is written is the front of the twists. Assumes nothing.
use mathlib.Core.Path.{◌≡◌}
use lib.ListN.{length, take}
use Rattle.base.specs.Product.{twisted}
use Rattle.turning.proofs.inner.twist.Given as goal

abbrev pub invariant-loop-i : goal.invariant-loop-i
invariant-loop-i l = (length l.out ≡ length l.initial.out) × (take l.i l.out ≡ take l.i (twisted l.k l.t l.q l.s))
