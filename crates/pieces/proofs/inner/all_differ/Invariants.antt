-- `pieces::inner::all_differ` meets its contract. The loop's invariant: going on from the bits met gives the mask of the whole. Assumes nothing.
use mathlib.Core.Path.{◌≡◌}
use Prim.Native.Nat.{◌<◌, ◌^◌}
use lib.ListN.{drop}
use Rattle.base.proofs.Mask.{mask_from}
use Rattle.pieces.proofs.inner.all_differ.Given as goal

abbrev pub invariant-loop-x : goal.invariant-loop-x
invariant-loop-x l = (l.met < 2 ^ 32) × (mask_from l.met (drop l.x-index l.s) ≡ mask_from 0 l.s)
