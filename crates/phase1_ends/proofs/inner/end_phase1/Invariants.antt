-- `phase1_ends::inner::end_phase1` meets its contract: at the head of the loop, what is left of the lengths answers as all of them did, and the path is as
-- it came. The measure is the lengths left. Assumes nothing.
use Prim.Native.Nat.{◌<◌, ◌≤◌, ◌-◌}
use mathlib.Core.Path.{◌≡◌}
use Rattle.base.specs.Search.{deepen_from}
use Rattle.phase2_steps.specs.Second.{turns2, fars2, of2, run2}
use Rattle.phase1_ends.proofs.inner.end_phase1.Given as goal

abbrev pub invariant-loop-d : goal.invariant-loop-d
invariant-loop-d l = (l.d ≤ l.top)
    × ((l.rest < 4294967296)
    × ((l.two ≡ l.initial.two)
    × (deepen_from (run2 (turns2 l.tables.moves.now) (fars2 l.tables.prunes.now) (of2 l.x) l.x.last) l.top 0 l.left
    ≡ deepen_from (run2 (turns2 l.tables.moves.now) (fars2 l.tables.prunes.now) (of2 l.x) l.x.last) l.top l.d l.rest)))

abbrev pub decreases-loop-d : goal.decreases-loop-d
decreases-loop-d l = l.top - l.d
