-- `cubie::inner::apply_move` meets its contract. Assumes nothing.
use mathlib.Core.Path.{ap, ◌∙◌}
use Rattle.cubie.specs.Cube.{refusal_of}
use Rattle.cubie.proofs.Range.{no-refusal}
use Rattle.cubie.proofs.Turns.{move-range}
use Rattle.cubie.proofs.inner.apply_move.Goals as goal

pub mul-requires : goal.mul-requires
mul-requires c = (c.requires.0, ap refusal_of c.move_state.ensures ∙ no-refusal (move-range c.args.m c.requires.1))
