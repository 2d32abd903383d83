-- `checksum::sum8` meets its contract. Assumes nothing.
use Rattle.std.proofs.Common.{◌+◌, drop, sym, ap, ◌∙◌, arith}
use Rattle.checksum.specs.Sum.{fnv_from}
use Rattle.checksum.proofs.Turns.{turn8, end8}
use Rattle.checksum.proofs.sum8.Goals as goal

pub loop-x-preserved : goal.loop-x-preserved
loop-x-preserved c =
    let s = c.args.s.now in
    let l = c.loop-x in
    ap (λ x. fnv_from x (drop (l.x-index + 1) s)) c.step-sum.ensures ∙ turn8 s l.x-index (omega arith) l.sum ∙ l.invariant

pub returns : goal.returns
returns c = sym (end8 c.args.s.now c.loop-x.x-index (omega arith) c.loop-x.sum) ∙ c.loop-x.invariant
