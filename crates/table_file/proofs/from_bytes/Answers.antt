-- `table_file::from_bytes` meets its contract. Assumes nothing.
use mathlib.Core.Path.{◌≡◌, sym, ap, ◌∙◌}
use Prim.Native.Nat.{ℕ, ◌+◌, ◌*◌, ◌<◌}
use native.Mathlib.Omega.{arith}
use lib.ListN.{length, get_or, take, set}
use Rattle.table_file.proofs.Bytes.{entries-turn, entries-all}
use Rattle.table_file.proofs.from_bytes.Goals as goal

pub loop-i-preserved : goal.loop-i-preserved
loop-i-preserved c =
    let bs = c.args.bytes.now in
    let l = c.loop-i in
    let value : c.from_le_bytes.result ≡ get_or bs (2 * l.i) 0 + 256 * get_or bs (2 * l.i + 1) 0 = omega (arith, c.from_le_bytes.ensures) in
    let here : l.i < length l.entries = omega arith in
    let room : length bs ≡ 2 * length l.entries = omega arith in (
      l.invariant.0,
      ap (λ (n : ℕ). take (l.i + 1) (set l.entries l.i n)) value ∙ entries-turn bs l.entries l.i room here l.invariant.1,
    )

pub returns-clause-entries_after : goal.returns-clause-entries_after
returns-clause-entries_after c =
    let e = sym c.two_each.ensures ∙ c.if-not-two_each.false in
    (entries-all c.args.entries.now c.args.bytes.now e _ c.loop-i.i (omega arith) (omega arith) c.loop-i.invariant.1).1
