-- `permutation::inner::slice_to_index` meets its contract. The outer loop's invariant: the places passed, in the factorial base, and the number of what is left
-- make the number of the whole. The inner loop's: what is counted and what is left to count make the count. Assumes nothing.
use mathlib.Core.Path.{◌≡◌}
use Prim.Native.Nat.{◌+◌, ◌-◌, ◌*◌}
use native.Mathlib.Omega.{arith}
use lib.ListN.{length, get_or, drop}
use Rattle.base.specs.Perm.{below}
use Rattle.base.proofs.Steps.{below-yes, below-no, below_end, number_step, number_fits}
use Rattle.permutation.proofs.inner.slice_to_index.Goals.{else-cp-i, then-cp-i}
use Rattle.permutation.proofs.inner.slice_to_index.Goals as goal

pub overflow_mul-index : goal.overflow_mul-index
overflow_mul-index c =
    let l = c.loop-i in
    omega (arith, number_fits c.args.cp.now l.i l.index c.loop-i-test.true l.invariant.1 c.requires)

pub overflow_add-index : goal.overflow_add-index
overflow_add-index c =
    let l = c.loop-i in
    omega (arith, number_fits c.args.cp.now l.i l.index c.loop-i-test.true l.invariant.1 c.requires)

pub loop-j-preserved : goal.loop-j-preserved
loop-j-preserved c =
    let s = c.args.cp.now in
    let x = get_or s c.loop-i.i 0 in
    let j = c.loop-j.j in
    let h = c.loop-j-test.true in
    elim c.if-cp-i.branch [ then-cp-i w ↦ omega (arith, below-yes x s j h w.if-cp-i.true) | else-cp-i w ↦ omega (arith, below-no x s j h w.if-cp-i.false) ]

pub loop-i-preserved : goal.loop-i-preserved
loop-i-preserved c =
    let s = c.args.cp.now in
    let l = c.loop-i in
    let x = get_or s l.i 0 in
    let e : c.loop-j.index ≡ l.index * (length s - l.i) + below x (drop (l.i + 1) s) =
    omega (arith, below_end x s c.loop-j.j c.loop-j-test.false) in
    (omega arith, rw e (number_step s l.i l.index c.loop-i-test.true l.invariant.1))
