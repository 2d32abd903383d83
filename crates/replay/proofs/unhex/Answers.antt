-- `replay::unhex` meets its contract. The loop's invariant: the first i bytes are in. Assumes nothing.
use mathlib.Core.Path.{◌≡◌, sym, ap, ap₂, ◌∙◌}
use mathlib.Core.List.{List}
use Prim.Native.Nat.{ℕ, ◌+◌, ◌*◌}
use native.Mathlib.Nat.{zero-add}
use native.Mathlib.Numerals.{add-one}
use native.Mathlib.Omega.{arith}
use lib.ListN.{get_or, set}
use lib.Seq.{paste, paste-suc}
use Rattle.replay.specs.Record.{unhexed}
use Rattle.replay.proofs.Record.{nibble-le, unhexed-length, unhexed-at}
use Rattle.replay.proofs.unhex.Goals as goal

pub overflow_mul-out : goal.overflow_mul-out
overflow_mul-out c = omega (arith, c.nibble.ensures, nibble-le (get_or c.args.text.now (2 * c.loop-i.i) 0))

pub overflow_add-out : goal.overflow_add-out
overflow_add-out c = omega (arith, c.nibble.ensures, c.nibble-in-loop-i.ensures, nibble-le (get_or c.args.text.now (2 * c.loop-i.i) 0), nibble-le (get_or c.args.text.now (2 * c.loop-i.i + 1) 0))

pub loop-i-preserved : goal.loop-i-preserved
loop-i-preserved c =
    let a = c.args in
    let l = c.loop-i in
    let s = a.text.now in
    let o = a.out.now in
    let v : c.nibble.result * 16 + c.nibble-in-loop-i.result ≡ get_or (unhexed s) l.i 0 =
    ap₂ (λ (x y : ℕ). x * 16 + y) c.nibble.ensures c.nibble-in-loop-i.ensures ∙ sym (unhexed-at s l.i (omega arith)) in
    ap₂ (λ (t : List ℕ) (x : ℕ). set t l.i x) l.invariant v
    ∙ ap (λ (k : ℕ). set (paste o 0 (unhexed s) l.i) k (get_or (unhexed s) l.i 0)) (sym (zero-add l.i))
    ∙ paste-suc o 0 (unhexed s) l.i 0 (omega arith) (omega (arith, unhexed-length s))
    ∙ ap (paste o 0 (unhexed s)) (sym (add-one l.i))
