-- `cubie::inner::count_corner_twist` meets its contract. Assumes nothing.
use mathlib.Core.Path.{◌≡◌}
use Prim.Native.Nat.{◌≤◌}
use native.Mathlib.Omega.{arith}
use lib.ListN.{length}
use Rattle.cubie.proofs.Range.{ranges}
use borrow.Author.Rules.{rules}
use Rattle.cubie.proofs.inner.count_corner_twist.Goals as goal

pub count_turns-requires : goal.count_turns-requires
count_turns-requires c =
    let l : length c.args.c.co ≡ 8 = search rules in
    let h : length c.args.c.co ≤ 12 = omega arith in
    (h, omega arith, omega arith, (ranges c.args.c c.requires).1)
