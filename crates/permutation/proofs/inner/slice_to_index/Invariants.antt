-- `permutation::inner::slice_to_index` meets its contract. The outer loop's invariant: the places passed, in the factorial base, and the number of what is left
-- make the number of the whole. The inner loop's: what is counted and what is left to count make the count. Assumes nothing.
use mathlib.Core.Path.{◌≡◌}
use Prim.Native.Nat.{◌≤◌, ◌<◌, ◌+◌, ◌-◌, ◌*◌}
use lib.ListN.{length, get_or, drop}
use Rattle.base.specs.Perm.{below, fact, number}
use Rattle.permutation.proofs.inner.slice_to_index.Given as goal

abbrev pub invariant-loop-j : goal.invariant-loop-j
invariant-loop-j l = (l.i < l.j) × (l.j ≤ length l.cp) × (l.index + below (get_or l.cp l.i 0) (drop l.j l.cp) ≡ l.initial.index + below (get_or l.cp l.i 0) (drop (l.i + 1) l.cp))

abbrev pub invariant-loop-i : goal.invariant-loop-i
invariant-loop-i l = (l.i ≤ length l.cp) × (l.index * fact (length l.cp - l.i) + number (drop l.i l.cp) ≡ number l.cp)
