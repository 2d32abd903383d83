-- `search::inner::search` meets its contract: at the head of the loop, what is left of the lengths answers as all of them did, and both paths are empty. The
-- measure is the lengths left. Assumes nothing.
use Prim.Native.Nat.{◌+◌, ◌-◌, ◌≤◌}
use mathlib.Core.Path.{◌≡◌}
use lib.ListN.{replicate}
use Rattle.base.specs.Search.{deepen_from}
use Rattle.cubie.specs.Cube.{cube_of}
use Rattle.phase1_steps.specs.First.{of1}
use Rattle.search.proofs.Answered.{run}
use Rattle.search.proofs.inner.search.Given as goal

abbrev pub invariant-loop-d : goal.invariant-loop-d
invariant-loop-d l = (l.d ≤ l.limit + 1)
    × ((l.rest ≤ l.budget)
    × ((l.one ≡ replicate 31 0)
    × ((l.two ≡ replicate 31 0)
    × (deepen_from (run l.tables.moves.now l.tables.prunes.now (cube_of l.bytes) l.limit (of1 l.x) l.x.last) (l.limit + 1) 0 l.budget
    ≡ deepen_from (run l.tables.moves.now l.tables.prunes.now (cube_of l.bytes) l.limit (of1 l.x) l.x.last) (l.limit + 1) l.d l.rest))))

abbrev pub decreases-loop-d : goal.decreases-loop-d
decreases-loop-d l = l.limit + 1 - l.d
