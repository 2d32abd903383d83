-- `phase1_steps::inner::next` meets its contract: three tests, one after the other. Assumes nothing.
use Rattle.phase2_steps.specs.Rules.{phase1}
use Rattle.phase2_steps.proofs.Facts.{below-yes, above-a, above-b, above-c, turns_as}
use Rattle.phase1_steps.specs.First.{turned1}
use Rattle.phase1_steps.proofs.Found.{go1-is}
use Rattle.phase1_steps.proofs.inner.next.Goals.{else-a-lt2187-via-then-a-lt2187+then-b-lt2048+else-c-lt495, else-a-lt2187-via-then-a-lt2187+else-b-lt2048, else-a-lt2187-via-else-a-lt2187}
use Rattle.phase1_steps.proofs.inner.next.Goals as goal

pub returns-then-c-lt495 : goal.returns-then-c-lt495
unfolding turned1
returns-then-c-lt495 c = turns_as phase1 turned1 _ (go1-is _ _ _ c.requires.below c.requires.j_bound) (below-yes phase1 _ c.if-a-lt2187.true c.if-b-lt2048.true c.if-c-lt495.true)

pub returns-else-a-lt2187 : goal.returns-else-a-lt2187
unfolding turned1
returns-else-a-lt2187 c =
    elim c.else-a-lt2187.branch [
      | else-a-lt2187-via-then-a-lt2187+then-b-lt2048+else-c-lt495 w ↦ turns_as phase1 turned1 _ (go1-is _ _ _ c.requires.below c.requires.j_bound) (above-c phase1 _ w.if-c-lt495.false)
      | else-a-lt2187-via-then-a-lt2187+else-b-lt2048 w ↦ turns_as phase1 turned1 _ (go1-is _ _ _ c.requires.below c.requires.j_bound) (above-b phase1 _ w.if-b-lt2048.false)
      | else-a-lt2187-via-else-a-lt2187 w ↦ turns_as phase1 turned1 _ (go1-is _ _ _ c.requires.below c.requires.j_bound) (above-a phase1 _ w.if-a-lt2187.false)
    ]
