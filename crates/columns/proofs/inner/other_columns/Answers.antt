-- `columns::inner::other_columns` meets its contract. Assumes nothing.
use Rattle.base.proofs.Sets.{columns-first}
use Rattle.columns.proofs.inner.other_columns.Goals as goal

pub returns : goal.returns
returns c = columns-first _ c.requires c.ranges.set.fits
