-- `turning::inner::count_swaps` meets its contract. The loop's invariant: the swaps made and those that are left make the swaps of the whole. Assumes nothing.
use native.Mathlib.Omega.{arith}
use lib.ListN.{length, drop}
use Rattle.base.proofs.Selection.{swaps-step, swaps-end, settled-le}
use Rattle.turning.proofs.inner.count_swaps.Goals as goal

pub loop-i-preserved : goal.loop-i-preserved
loop-i-preserved c =
    let l = c.loop-i in
    let s = c.settle-count in (
      omega (arith, settled-le l.i l.p s.new.p s.result s.ensures),
      omega (arith, swaps-step (length c.args.p.now) l.i l.p s.new.p s.result (omega arith) l.auto.p s.ensures),
    )

pub returns : goal.returns
returns c =
    let l = c.loop-i in
    omega (arith, swaps-end (length c.args.p.now) l.i (drop l.i l.p) (omega arith))
