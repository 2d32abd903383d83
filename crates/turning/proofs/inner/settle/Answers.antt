-- `turning::inner::settle` meets its contract. The loop's invariant: nothing is changed yet, and no place passed holds i. Assumes nothing.
use mathlib.Core.Path.{sym, ap, ◌∙◌}
use mathlib.Core.List.{List}
use Prim.Native.Nat.{ℕ}
use native.Mathlib.Omega.{arith}
use lib.ListN.{length, get_or}
use Rattle.base.proofs.Selection.{settle-fixed, settle-none, settle-found}
use Rattle.turning.proofs.inner.settle.Goals as goal

pub returns-then-p-i : goal.returns-then-p-i
returns-then-p-i c = settle-fixed c.args.i c.args.p.now c.if-p-i.true

pub returns-then-p-j : goal.returns-then-p-j
returns-then-p-j c =
    let a = c.args in
    let l = c.loop-j in
    rw (c.swap.ensures.by_index.3 0, l.invariant.0)
    (settle-found a.i a.p.now l.j (omega arith) (omega (arith, ap length l.invariant.0)) c.if-p-i.false l.invariant.1
    (ap (λ (q : List ℕ). get_or q l.j 0) (sym l.invariant.0) ∙ c.if-p-j.true))

pub returns : goal.returns
returns c =
    let a = c.args in
    let l = c.loop-j in
    rw l.invariant.0 (settle-none a.i a.p.now l.j (omega (arith, ap length l.invariant.0)) l.invariant.1)
