-- `phase2_steps::inner::next` meets its contract: three tests, one after the other. Assumes nothing.
use Rattle.phase2_steps.specs.Rules.{phase2}
use Rattle.phase2_steps.specs.Second.{turned2}
use Rattle.phase2_steps.proofs.Facts.{go2-is, below-yes, above-a, above-b, above-c, turns_as}
use Rattle.phase2_steps.proofs.inner.next.Goals.{else-a-lt40320-via-then-a-lt40320+then-b-lt40320+else-c-lt24, else-a-lt40320-via-then-a-lt40320+else-b-lt40320, else-a-lt40320-via-else-a-lt40320}
use Rattle.phase2_steps.proofs.inner.next.Goals as goal

pub returns-then-c-lt24 : goal.returns-then-c-lt24
unfolding turned2
returns-then-c-lt24 c = turns_as phase2 turned2 _ (go2-is _ _ _ c.requires.below c.requires.j_bound) (below-yes phase2 _ c.if-a-lt40320.true c.if-b-lt40320.true c.if-c-lt24.true)

pub returns-else-a-lt40320 : goal.returns-else-a-lt40320
unfolding turned2
returns-else-a-lt40320 c =
    elim c.else-a-lt40320.branch [
      | else-a-lt40320-via-then-a-lt40320+then-b-lt40320+else-c-lt24 w ↦ turns_as phase2 turned2 _ (go2-is _ _ _ c.requires.below c.requires.j_bound) (above-c phase2 _ w.if-c-lt24.false)
      | else-a-lt40320-via-then-a-lt40320+else-b-lt40320 w ↦ turns_as phase2 turned2 _ (go2-is _ _ _ c.requires.below c.requires.j_bound) (above-b phase2 _ w.if-b-lt40320.false)
      | else-a-lt40320-via-else-a-lt40320 w ↦ turns_as phase2 turned2 _ (go2-is _ _ _ c.requires.below c.requires.j_bound) (above-a phase2 _ w.if-a-lt40320.false)
    ]
