-- The cycle of calls {enter_phase2}. The measure is the depth to go. At the head of the loop, the walk over the set that is left answers as the entry does,
-- and the path is as it came. Assumes nothing.
use mathlib.Core.Path.{◌≡◌}
use Prim.Native.Nat.{◌-◌, ◌<◌}
use lib.ListN.{length, take}
use Rattle.base.specs.Lists.{Under}
use Rattle.base.specs.Search.{enter, walk_over}
use Rattle.base.specs.Sets.{columns_of}
use Rattle.phase2_steps.specs.Rules.{at}
use Rattle.phase2_steps.specs.Second.{turns2, fars2, of2, rules2}
use Rattle.phase2.proofs.inner.+enter_phase2.Given as goal

abbrev pub decreases-enter_phase2 : goal.decreases-enter_phase2
decreases-enter_phase2 l = l.d

abbrev pub invariant-loop-set : goal.invariant-loop-set
invariant-loop-set l = record {
  under : Under 10 (columns_of l.set);
  rest_bound : l.rest < 4294967296;
  path_same : l.path ≡ l.initial.path;
  walk :
      enter (rules2 (turns2 l.tables.moves.now) (fars2 l.tables.prunes.now)) l.d (at (of2 l.x) l.x.last (take l.n l.initial.path)) l.left
      ≡ walk_over (rules2 (turns2 l.tables.moves.now) (fars2 l.tables.prunes.now)) (l.d - 1) (at (of2 l.x) 18 (take l.n l.path)) (columns_of l.set) l.rest;
}

abbrev pub decreases-loop-set : goal.decreases-loop-set
decreases-loop-set l = length (columns_of l.set)
