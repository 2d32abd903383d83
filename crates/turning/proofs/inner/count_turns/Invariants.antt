-- `turning::inner::count_turns` meets its contract. The loop's invariant: what is counted and what is left make the whole. Assumes nothing.
use mathlib.Core.Path.{◌≡◌}
use Prim.Native.Nat.{◌≤◌, ◌+◌, ◌-◌, ◌*◌, ◌%◌}
use lib.ListN.{drop}
use Rattle.base.specs.Lists.{total}
use Rattle.turning.proofs.inner.count_turns.Given as goal

abbrev pub invariant-loop-x : goal.invariant-loop-x
invariant-loop-x l = (l.count ≤ l.x-index * 2) × (l.count + total (λ x. (l.k - x) % l.k) (drop l.x-index l.s) ≡ total (λ x. (l.k - x) % l.k) l.s)
