-- The first 31 of 70 bytes are 31.
use Rattle.std.proofs.Common.{arith, sym, length-take-le}
use Rattle.replay_cubie.proofs.same_found.Goals as goal

pub slice_bounds-eq-end-then-eq : goal.slice_bounds-eq-end-then-eq
slice_bounds-eq-end-then-eq c = sym (length-take-le 31 c.args.want.now (omega (arith, c.if-want-ne70.false)))
