-- `judgement::inner::closed_end` meets its contract. Assumes nothing.
use native.Mathlib.Omega.{arith}
use Rattle.judgement.proofs.Lines.{closed_none, closed-lf, closed-other}
use Rattle.judgement.proofs.inner.closed_end.Goals as goal

pub returns-then-n-eq0 : goal.returns-then-n-eq0
returns-then-n-eq0 c = (omega arith, closed_none c.args.text.now c.if-n-eq0.true)

pub returns-then-text-n-eq10 : goal.returns-then-text-n-eq10
returns-then-text-n-eq10 c = (omega arith, closed-lf c.args.text.now c.if-text-n-eq10.true)

pub returns-else-text-n-eq10 : goal.returns-else-text-n-eq10
returns-else-text-n-eq10 c = (omega arith, closed-other c.args.text.now c.if-text-n-eq10.false)
