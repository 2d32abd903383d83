-- `index::co_to_index` meets its contract. Assumes nothing.
use mathlib.Core.Path.{sym, ◌∙◌}
use Rattle.base.proofs.Tests.{in_range-under}
use Rattle.index.proofs.co_to_index.Goals as goal

pub co_to_index-requires : goal.co_to_index-requires
co_to_index-requires c = in_range-under 3 c.args.corner (sym c.in_range.ensures ∙ c.if-not-in_range.false)
