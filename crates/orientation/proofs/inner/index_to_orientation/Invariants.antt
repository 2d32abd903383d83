-- `orientation::inner::index_to_orientation` meets its contract. The loop's invariant: the places from i on, but for the last, hold the last
-- digits, rest is the other digits, and sum the sum of those held. Assumes nothing.
use mathlib.Core.Path.{◌≡◌}
use Prim.Native.Nat.{suc, ◌≤◌, ◌-◌, ◌/◌, ◌^◌}
use lib.ListN.{length, take, drop}
use Rattle.base.specs.Lists.{total}
use Rattle.numbering.proofs.Orientation.{lowest}
use Rattle.orientation.proofs.inner.index_to_orientation.Given as goal

abbrev pub invariant-loop-i : goal.invariant-loop-i
invariant-loop-i g l = (l.i ≤ l.last) × (length l.s ≡ suc l.last) × (l.rest ≡ l.index / l.cases ^ (l.last - l.i)) × (take (l.last - l.i) (drop l.i l.s) ≡ lowest l.cases (l.last - l.i) l.index) × (l.sum ≡ total (λ x. x) (lowest l.cases (l.last - l.i) l.index))
