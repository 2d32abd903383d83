-- `checksum::sum16` meets its contract. Assumes nothing.
use Rattle.std.proofs.Common.{◌≡◌, ◌+◌, ◌/◌, ◌%◌, get_or, drop, sym, ap, ap₂, ◌∙◌, arith}
use Rattle.checksum.specs.Sum.{fnv_step, fnv_from, bytes16}
use Rattle.checksum.proofs.Turns.{turn16, end16}
use Rattle.checksum.proofs.sum16.Goals as goal

pub loop-x-preserved : goal.loop-x-preserved
loop-x-preserved c =
    let s = c.args.s.now in
    let l = c.loop-x in
    let x = get_or s l.x-index 0 in
    let rest = bytes16 (drop (l.x-index + 1) s) in
    let b = c.to_le_bytes.ensures in
    let low : get_or c.to_le_bytes.result 0 0 ≡ x % 256 = ap (λ xs. get_or xs 0 0) b in
    let high : get_or c.to_le_bytes.result 1 0 ≡ x / 256 = ap (λ xs. get_or xs 1 0) b ∙ omega (arith, c.type_inv.s l.x-index) in
    ap (λ sum. fnv_from sum rest) c.step-sum.ensures
    ∙ ap₂ (λ sum byte. fnv_from (fnv_step sum byte) rest) (c.step.ensures ∙ ap (fnv_step l.sum) low) high
    ∙ turn16 s l.x-index (omega arith) l.sum
    ∙ l.invariant

pub returns : goal.returns
returns c = sym (end16 c.args.s.now c.loop-x.x-index (omega arith) c.loop-x.sum) ∙ c.loop-x.invariant
