-- `moves::inner::get_inverse` meets its contract. Assumes nothing.
use mathlib.Core.Path.{refl}
use Rattle.moves.specs.Moves.{inverse_move}
use Rattle.moves.proofs.inner.get_inverse.Goals as goal

pub returns : goal.returns
unfolding inverse_move
returns c = refl
