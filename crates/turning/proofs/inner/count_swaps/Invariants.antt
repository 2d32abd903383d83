-- `turning::inner::count_swaps` meets its contract. The loop's invariant: the swaps made and those that are left make the swaps of the whole. Assumes nothing.
use mathlib.Core.Path.{◌≡◌}
use Prim.Native.Nat.{◌≤◌, ◌+◌, ◌-◌}
use lib.ListN.{length, drop}
use Rattle.base.specs.Parity.{swaps_from, swaps}
use Rattle.turning.proofs.inner.count_swaps.Given as goal

abbrev pub invariant-loop-i : goal.invariant-loop-i
invariant-loop-i l = (l.count ≤ l.i) × (l.count + swaps_from (length l.initial.p - l.i) l.i (drop l.i l.p) ≡ swaps l.initial.p)
