-- The cycle of calls {solve_phase1, step_phase1, walk_phase1}. The measures: 64 for each move to go; a step's is one
-- more, and a walk's is above its steps' by the count of the columns left. An entry's is 66 for each: above its step's, and below it where none is to go. Assumes nothing.
use Prim.Native.Nat.{◌+◌, ◌*◌}
use lib.ListN.{length}
use Rattle.base.specs.Sets.{columns_of}
use Rattle.phase1.proofs.inner.+solve_phase1_step_phase1_walk_phase1.Given as goal

abbrev pub decreases-solve_phase1 : goal.decreases-solve_phase1
decreases-solve_phase1 l = l.d * 66

abbrev pub decreases-step_phase1 : goal.decreases-step_phase1
decreases-step_phase1 l = l.d * 64 + 1

abbrev pub decreases-walk_phase1 : goal.decreases-walk_phase1
decreases-walk_phase1 l = l.d * 64 + 2 + length (columns_of l.set)
