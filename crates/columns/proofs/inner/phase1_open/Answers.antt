-- `columns::inner::phase1_open` meets its contract. Assumes nothing.
use Rattle.columns.proofs.Columns.{sets1, phase1-open}
use Rattle.columns.proofs.inner.phase1_open.Goals as goal

pub returns : goal.returns
unfolding sets1
returns c = phase1-open _ _ c.last_layer.ensures
