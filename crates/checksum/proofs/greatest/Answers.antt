-- `checksum::greatest` meets its contract. Assumes nothing.
use Rattle.std.proofs.Common.{arith}
use Rattle.checksum.proofs.Turns.{turn-greatest, end-greatest}
use Rattle.checksum.proofs.greatest.Goals as goal

pub loop-x-preserved : goal.loop-x-preserved
loop-x-preserved c =
    let l = c.loop-x in
    let e = turn-greatest c.args.s.now l.x-index (omega arith) l.most in
    grind (arith, e, l.invariant)

pub returns : goal.returns
returns c = omega (arith, end-greatest c.args.s.now c.loop-x.x-index (omega arith), c.loop-x.invariant)
