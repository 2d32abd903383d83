-- `index::eo_to_index` meets its contract. Assumes nothing.
use mathlib.Core.Path.{sym, ◌∙◌}
use Rattle.base.proofs.Tests.{in_range-under}
use Rattle.index.proofs.eo_to_index.Goals as goal

pub eo_to_index-requires : goal.eo_to_index-requires
eo_to_index-requires c = in_range-under 2 c.args.edge (sym c.in_range.ensures ∙ c.if-not-in_range.false)
