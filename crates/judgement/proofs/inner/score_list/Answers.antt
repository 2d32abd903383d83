-- `judgement::inner::score_list` meets its contract. Assumes nothing.
use Rattle.cubie.proofs.Range.{no-refusal}
use Rattle.judgement.proofs.inner.score_list.Goals as goal

pub apply_moves-after-requires : goal.apply_moves-after-requires
apply_moves-after-requires c = (no-refusal c.requires.0, c.requires.1)
