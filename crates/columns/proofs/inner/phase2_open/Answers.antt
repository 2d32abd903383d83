-- `columns::inner::phase2_open` meets its contract. Assumes nothing.
use Rattle.columns.proofs.Columns.{sets2, phase2-open}
use Rattle.columns.proofs.inner.phase2_open.Goals as goal

pub returns : goal.returns
unfolding sets2
returns c = phase2-open _ _ c.last_layer.ensures
