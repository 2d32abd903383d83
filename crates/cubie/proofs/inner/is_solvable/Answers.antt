-- `cubie::inner::is_solvable` meets its contract. Assumes nothing.
use Rattle.cubie.proofs.Range.{ranges}
use Rattle.cubie.proofs.inner.is_solvable.Goals as goal

pub none_twice-requires : goal.none_twice-requires
none_twice-requires c =
    let r = ranges c.args.c c.requires in
    (r.0, r.2)
