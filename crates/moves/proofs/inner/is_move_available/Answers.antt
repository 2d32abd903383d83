-- `moves::inner::is_move_available` meets its contract. Assumes nothing.
use Rattle.std.proofs.Common.{arith}
use Rattle.moves.specs.Moves.{is_available}
use Rattle.moves.proofs.inner.is_move_available.Goals.{then-current-prev, else-current-prev}
use Rattle.moves.proofs.inner.is_move_available.Goals as goal

pub returns-then-not-is_inverse : goal.returns-then-not-is_inverse
unfolding is_available
returns-then-not-is_inverse c = elim c.if-current-prev.branch [ then-current-prev w ↦ grind arith | else-current-prev w ↦ grind arith ]

pub returns-else-not-is_inverse : goal.returns-else-not-is_inverse
unfolding is_available
returns-else-not-is_inverse c = elim c.if-current-prev.branch [ then-current-prev w ↦ grind arith | else-current-prev w ↦ grind arith ]
