-- `moves::inner::check_move` meets its contract. Assumes nothing.
use Rattle.std.proofs.Common.{arith}
use Rattle.moves.proofs.inner.check_move.Goals as goal

pub returns-else-m-lt18-clause-value : goal.returns-else-m-lt18-clause-value
returns-else-m-lt18-clause-value c = grind arith
