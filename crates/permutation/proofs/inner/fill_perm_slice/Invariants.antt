-- `permutation::inner::fill_perm_slice` meets its contract. The loop's invariant: the places from i on hold the permutation of the last digits, and rest is the
-- other digits. Assumes nothing.
use mathlib.Core.Path.{◌≡◌}
use Prim.Native.Nat.{◌≤◌, ◌-◌, ◌/◌}
use lib.ListN.{length, drop}
use Rattle.base.specs.Perm.{fact}
use Rattle.numbering.proofs.Fill.{filled}
use Rattle.permutation.proofs.inner.fill_perm_slice.Given as goal

abbrev pub invariant-loop-i : goal.invariant-loop-i
invariant-loop-i l = (l.i ≤ l.n) × (length l.s ≡ l.n) × (l.rest ≡ l.index / fact (l.n - l.i)) × (drop l.i l.s ≡ filled l.base (l.n - l.i) l.index)
