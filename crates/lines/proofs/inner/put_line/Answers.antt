-- `lines::inner::put_line` meets its contract. Assumes nothing.
use mathlib.Core.List.{[], ◌∷◌, ◌++◌}
use Prim.Native.Nat.{◌+◌, ◌≤◌}
use native.Mathlib.Omega.{arith}
use lib.ListN.{length}
use Rattle.lines.specs.Lines.{decimal}
use Rattle.lines.proofs.Written.{behind, last_byte, over-size, line-length}
use Rattle.lines.proofs.inner.put_line.Goals as goal

pub returns-clause-out_after : goal.returns-clause-out_after
returns-clause-out_after c =
    let a = c.args in
    let d = a.out.now in
    let w = a.word.now in
    let size = line-length w (decimal a.n) in
    let one = c.put_bytes-a.ensures in
    let two = c.put_decimal-b.ensures in
    let d1 = over-size d _ a.at w (omega (arith, c.requires, size)) one.out_after in
    let d2 = over-size _ _ c.put_bytes-a.result (decimal a.n) (omega (arith, c.requires, size, one.value, d1)) two.out_after in
    let room : a.at + length w ≤ length d = omega (arith, c.requires, size) in
    let next : c.put_bytes-a.result + length (decimal a.n) ≤ length c.put_bytes-a.new.out = omega (arith, c.requires, size, one.value, d1) in
    let end = last_byte c.put_decimal-b.new.out c.put_decimal-b.result 10 (omega (arith, c.requires, size, one.value, d1, two.value, d2)) in
    behind d _ _ w (decimal a.n ++ (10 ∷ [])) a.at c.put_bytes-a.result room one.out_after one.value
    (behind _ _ _ (decimal a.n) (10 ∷ []) c.put_bytes-a.result c.put_decimal-b.result next two.out_after two.value end)
