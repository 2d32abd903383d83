-- `phase2::inner::solve_phase2` meets its contract: an entry that is cut at once, or isn't. Assumes nothing.
use mathlib.Core.Path.{refl, sym, ◌∙◌}
use Rattle.phase2_steps.specs.Paths.{word_of}
use Rattle.phase2_steps.specs.Second.{Leaves2}
use Rattle.phase2_steps.proofs.Facts.{gives2}
use Rattle.phase2_steps.proofs.Steps.{cut-paid, cuts-at-once}
use Rattle.phase2.proofs.inner.solve_phase2.Goals as goal

pub overflow_sub-result : goal.overflow_sub-result
overflow_sub-result c = cut-paid _ _ _ _ _ (sym c.cut_at_once.ensures ∙ c.if-cut_at_once.true)

pub returns-then-cut_at_once : goal.returns-then-cut_at_once
unfolding word_of Leaves2
returns-then-cut_at_once c = gives2 (cuts-at-once _ _ _ _ _ _ _ (sym c.cut_at_once.ensures ∙ c.if-cut_at_once.true)) refl refl
