-- `orientation::inner::orientation_to_index` meets its contract. The loop's invariant: the places passed, in the base, and the number of what is
-- left make the number of the whole. Assumes nothing.
use mathlib.Core.Path.{◌≡◌}
use Prim.Native.Nat.{◌+◌, ◌-◌, ◌*◌, ◌^◌}
use lib.ListN.{length, drop}
use Rattle.base.specs.Digits.{digits}
use Rattle.orientation.proofs.inner.orientation_to_index.Given as goal

abbrev pub invariant-loop-x : goal.invariant-loop-x
invariant-loop-x l = l.index * l.cases ^ (length l.s - l.x-index) + digits l.cases (drop l.x-index l.s) ≡ digits l.cases l.s
