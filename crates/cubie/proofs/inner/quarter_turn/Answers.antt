-- `cubie::inner::quarter_turn` meets its contract: the constants are those of the definition. Assumes nothing.
use Rattle.std.proofs.lemmas.List.{get_or_default}
use Rattle.cubie.specs.Cube.{quarter_turns, solved_cube}
use Rattle.cubie.proofs.inner.quarter_turn.Goals as goal

pub returns : goal.returns
unfolding quarter_turns
returns c = get_or_default quarter_turns c.args.layer _ solved_cube c.requires
