-- `moves::inner::is_inverse` meets its contract. Assumes nothing.
use Rattle.std.proofs.Common.{arith}
use Rattle.moves.specs.Moves.{is_inverse}
use Rattle.moves.proofs.inner.is_inverse.Goals as goal

pub returns-in-0 : goal.returns-in-0
unfolding is_inverse
returns-in-0 c = grind arith

pub returns-in-2 : goal.returns-in-2
unfolding is_inverse
returns-in-2 c = grind arith

pub returns-in-4 : goal.returns-in-4
unfolding is_inverse
returns-in-4 c = grind arith

pub returns-in_default : goal.returns-in_default
unfolding is_inverse
returns-in_default c = grind arith
