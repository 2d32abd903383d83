-- `permutation::inner::raise` meets its contract. Assumes nothing.
use mathlib.Core.Path.{◌≡◌}
use native.Mathlib.Omega.{arith}
use lib.ListN.{length}
use Rattle.numbering.proofs.Fill.{raise-yes, raise-no}
use Rattle.permutation.proofs.inner.raise.Goals.{else-d-x, then-d-x}
use Rattle.permutation.proofs.inner.raise.Goals as goal

pub loop-x-preserved : goal.loop-x-preserved
loop-x-preserved c =
    let s₀ = c.args.s.now in
    let d = c.args.d in
    let l = c.loop-x in
    let same : length l.s ≡ length s₀ = omega arith in
    elim c.if-d-x.branch [
      | then-d-x w ↦ raise-yes d l.x-index s₀ l.s (omega arith) same l.invariant c.if-d-x.s w.s-is w.if-d-x.true
      | else-d-x w ↦ raise-no d l.x-index s₀ l.s (omega arith) same l.invariant c.if-d-x.s w.s-is w.if-d-x.false
    ]
