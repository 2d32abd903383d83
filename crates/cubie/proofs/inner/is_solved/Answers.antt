-- `cubie::inner::is_solved` meets its contract. Assumes nothing.
use mathlib.Core.Path.{◌∙◌}
use Rattle.cubie.specs.Cube.{solved_cube}
use Rattle.cubie.proofs.Turns.{eq_same_cube}
use Rattle.cubie.proofs.inner.is_solved.Goals as goal

pub returns : goal.returns
unfolding solved_cube
returns c = c.eq.ensures ∙ eq_same_cube c.args.c solved_cube
