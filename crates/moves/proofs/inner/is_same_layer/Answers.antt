-- `moves::inner::is_same_layer` meets its contract. Assumes nothing.
use mathlib.Core.Path.{refl}
use Rattle.moves.specs.Moves.{is_same_layer}
use Rattle.moves.proofs.inner.is_same_layer.Goals as goal

pub returns : goal.returns
unfolding is_same_layer
returns c = refl
