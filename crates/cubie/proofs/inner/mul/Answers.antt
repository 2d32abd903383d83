-- `cubie::inner::mul` meets its contract. Assumes nothing.
use mathlib.Core.Path.{◌≡◌}
use mathlib.Core.List.{List}
use Prim.Native.Nat.{ℕ}
use native.Mathlib.Omega.{arith}
use lib.ListN.{length}
use Rattle.std.proofs.Common.{lit<}
use Rattle.base.specs.Lists.{Under}
use Rattle.base.proofs.Tests.{under_more}
use Rattle.cubie.specs.Cube.{product}
use Rattle.cubie.proofs.Range.{ranges}
use borrow.Author.Rules.{rules}
use Rattle.cubie.proofs.inner.mul.Goals as goal

names : (n : ℕ) (p q : List ℕ) → length p ≡ n → Under n q → Under (length p) q
names n p q e u = rw e u

pub permute_row-requires : goal.permute_row-requires
permute_row-requires c =
    let b = c.args.b in
    (lit< tt, names 8 c.args.a.cp b.cp (search rules) (ranges b c.requires.1).0)

pub twist_row-requires : goal.twist_row-requires
twist_row-requires c =
    let b = c.args.b in
    let r = ranges b c.requires.1 in
    (lit< tt, (names 8 c.args.a.co b.cp (search rules) r.0, ((ranges c.args.a c.requires.0).1, r.1, omega arith, omega arith)))

pub permute_row-requires-2 : goal.permute_row-requires-2
permute_row-requires-2 c =
    let b = c.args.b in
    (lit< tt, names 12 c.args.a.ep b.ep (search rules) (ranges b c.requires.1).2)

pub twist_row-requires-2 : goal.twist_row-requires-2
twist_row-requires-2 c =
    let b = c.args.b in
    let r = ranges b c.requires.1 in
    (lit< tt, (names 12 c.args.a.eo b.ep (search rules) r.2, (under_more (omega arith) _ (ranges c.args.a c.requires.0).3, under_more (omega arith) _ r.3, omega arith, omega arith)))

pub returns : goal.returns
unfolding product
returns c = λ i. record { cp = c.permute_row.ensures i; co = c.twist_row.ensures i; ep = c.permute_row-2.ensures i; eo = c.twist_row-2.ensures i }
