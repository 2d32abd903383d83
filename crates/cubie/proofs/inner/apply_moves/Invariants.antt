-- `cubie::inner::apply_moves` meets its contract. The loop's invariant: what is left of the list gives the same cube. Assumes nothing.
use mathlib.Core.Path.{◌≡◌}
use lib.ListN.{drop}
use Rattle.cubie.specs.Cube.{InRange, apply_moves}
use Rattle.cubie.proofs.inner.apply_moves.Given as goal

abbrev pub invariant-loop-m : goal.invariant-loop-m
invariant-loop-m l = InRange l.state × (apply_moves l.state (drop l.m-index l.moves) ≡ apply_moves l.initial.state l.moves)
