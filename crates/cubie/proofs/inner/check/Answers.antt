-- `cubie::inner::check` meets its contract. Assumes nothing.
use Rattle.refusal.proofs.Laws.{ok_checked}
use Rattle.cubie.specs.Cube.{refusal_of}
use Rattle.cubie.proofs.inner.check.Goals as goal

pub returns-clause-value : goal.returns-clause-value
unfolding refusal_of
returns-clause-value c = c.check_range.ensures

pub returns-clause-in_range : goal.returns-clause-in_range
unfolding refusal_of
returns-clause-in_range c = ok_checked _ _ c.check_range.ensures
