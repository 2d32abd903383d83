-- `moves::inner::check_list` meets its contract. Assumes nothing.
use Rattle.std.proofs.Common.{sym, ◌∙◌}
use Rattle.base.proofs.Tests.{in_range-under}
use Rattle.moves.proofs.inner.check_list.Goals as goal

pub returns-then-in_range-clause-are_moves : goal.returns-then-in_range-clause-are_moves
returns-then-in_range-clause-are_moves c = in_range-under 18 c.args.moves.now (sym c.in_range.ensures ∙ c.if-in_range.true)
