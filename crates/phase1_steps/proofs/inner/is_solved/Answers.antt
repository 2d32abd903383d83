-- `phase1_steps::inner::is_solved` meets its contract. Assumes nothing.
use Rattle.std.proofs.Common.{arith}
use Rattle.phase2_steps.specs.Rules.{ends_of}
use Rattle.phase1_steps.proofs.inner.is_solved.Goals.{then-x-eq0, else-x-eq0}
use Rattle.phase1_steps.proofs.inner.is_solved.Goals as goal

pub returns-then-x-eq0-2 : goal.returns-then-x-eq0-2
unfolding ends_of
returns-then-x-eq0-2 c = elim c.if-x-eq0.branch [ then-x-eq0 w ↦ grind arith | else-x-eq0 w ↦ grind arith ]

pub returns-else-x-eq0-2 : goal.returns-else-x-eq0-2
unfolding ends_of
returns-else-x-eq0-2 c = elim c.if-x-eq0.branch [ then-x-eq0 w ↦ grind arith | else-x-eq0 w ↦ grind arith ]
