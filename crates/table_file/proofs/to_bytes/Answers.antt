-- `table_file::to_bytes` meets its contract. Assumes nothing.
use mathlib.Core.Path.{◌≡◌, sym, ap, ap₂, ◌∙◌}
use mathlib.Core.List.{List}
use Prim.Native.Nat.{ℕ, ◌+◌, ◌*◌, ◌/◌, ◌%◌, ◌<◌}
use native.Mathlib.Omega.{arith}
use lib.ListN.{length, get_or, take, set, length-set}
use Rattle.table_file.proofs.Bytes.{bytes-turn, bytes-all}
use Rattle.table_file.proofs.to_bytes.Goals as goal

pub loop-i-preserved : goal.loop-i-preserved
loop-i-preserved c =
    let xs = c.args.entries.now in
    let l = c.loop-i in
    let x = get_or xs l.i 0 in
    let b = c.to_le_bytes.ensures in
    let low : get_or c.to_le_bytes.result 0 0 ≡ x % 256 = ap (λ (ys : List ℕ). get_or ys 0 0) b in
    let high : get_or c.to_le_bytes.result 1 0 ≡ x / 256 = ap (λ (ys : List ℕ). get_or ys 1 0) b ∙ omega (arith, c.type_inv.entries l.i) in
    let here : l.i < length xs = omega arith in (
      length-set (set l.bytes (2 * l.i) _) (2 * l.i + 1) _ ∙ length-set l.bytes (2 * l.i) _ ∙ l.invariant.0,
      ap₂ (λ (m n : ℕ). take (2 * (l.i + 1)) (set (set l.bytes (2 * l.i) m) (2 * l.i + 1) n)) low high
          ∙ bytes-turn xs l.bytes l.i l.invariant.0 here l.invariant.1,
    )

pub returns-clause-bytes_after : goal.returns-clause-bytes_after
returns-clause-bytes_after c =
    let e = sym c.two_each.ensures ∙ c.if-not-two_each.false in
    (bytes-all c.args.entries.now c.args.bytes.now e _ c.loop-i.i (omega arith) c.loop-i.invariant.0 c.loop-i.invariant.1).1
