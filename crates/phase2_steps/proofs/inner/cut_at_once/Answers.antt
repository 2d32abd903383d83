-- `phase2_steps::inner::cut_at_once` meets its contract: the budget, the moves to go and the cut. Assumes nothing.
use Rattle.std.proofs.Common.{arith}
use Rattle.phase2_steps.specs.Rules.{cut_at_once}
use Rattle.phase2_steps.proofs.inner.cut_at_once.Goals.{then-left-ne0, else-left-ne0}
use Rattle.phase2_steps.proofs.inner.cut_at_once.Goals as goal

pub returns-then-d-ne0 : goal.returns-then-d-ne0
unfolding cut_at_once
returns-then-d-ne0 c = elim c.if-left-ne0.branch [ then-left-ne0 w ↦ grind arith | else-left-ne0 w ↦ grind arith ]

pub returns-else-d-ne0 : goal.returns-else-d-ne0
unfolding cut_at_once
returns-else-d-ne0 c = elim c.if-left-ne0.branch [ then-left-ne0 w ↦ grind arith | else-left-ne0 w ↦ grind arith ]
