-- `turning::inner::permute` meets its contract. The loop's invariant: what is written is the front of the product. Assumes nothing.
use mathlib.Core.Path.{◌≡◌}
use lib.ListN.{length, take}
use Rattle.base.specs.Product.{compose}
use Rattle.turning.proofs.inner.permute.Given as goal

abbrev pub invariant-loop-i : goal.invariant-loop-i
invariant-loop-i l = (length l.out ≡ length l.initial.out) × (take l.i l.out ≡ take l.i (compose l.p l.q))
