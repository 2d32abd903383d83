-- `cubie::inner::count_edge_twist` meets its contract. Assumes nothing.
use mathlib.Core.Path.{◌≡◌, ◌∙◌}
use Prim.Native.Nat.{◌≤◌}
use native.Mathlib.Omega.{arith}
use lib.ListN.{length}
use Rattle.cubie.proofs.Range.{ranges, flips}
use borrow.Author.Rules.{rules}
use Rattle.cubie.proofs.inner.count_edge_twist.Goals as goal

pub count_turns-requires : goal.count_turns-requires
count_turns-requires c =
    let l : length c.args.c.eo ≡ 12 = search rules in
    let h : length c.args.c.eo ≤ 12 = omega arith in
    (h, omega arith, omega arith, (ranges c.args.c c.requires).3)

pub returns : goal.returns
returns c = c.count_turns.ensures ∙ flips c.args.c.eo (ranges c.args.c c.requires).3
