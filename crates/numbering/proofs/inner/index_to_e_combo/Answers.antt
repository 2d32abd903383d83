-- `numbering::inner::index_to_e_combo` meets its contract. The loop's invariant: the places from i on are filled, and the others, 4s still, are to hold what
-- rest says of k pieces. Assumes nothing.
use Prim.Native.Nat.{◌-◌, ◌≤◌}
use native.Mathlib.Omega.{arith}
use Rattle.base.specs.Combo.{choose}
use Rattle.numbering.proofs.Combination.{fill_start, fill-yes, fill-no, fill_end}
use Rattle.numbering.proofs.inner.index_to_e_combo.Goals as goal

pub loop-i-init : goal.loop-i-init
loop-i-init c = fill_start c.args.index.0 c.requires

pub overflow_sub-combo : goal.overflow_sub-combo
overflow_sub-combo c =
    let l = c.loop-i in
    let s : choose (l.i - 1) l.k ≤ l.rest = omega (arith, c.calculate_combo-c.ensures) in
    let t = fill-yes c.args.index.0 l.combo l.rest l.k l.i c.loop-i-test.true l.invariant s in
    omega (arith, t.0)

pub overflow_sub-k : goal.overflow_sub-k
overflow_sub-k c =
    let l = c.loop-i in
    let s : choose (l.i - 1) l.k ≤ l.rest = omega (arith, c.calculate_combo-c.ensures) in
    let t = fill-yes c.args.index.0 l.combo l.rest l.k l.i c.loop-i-test.true l.invariant s in
    omega (arith, t.0)

pub loop-i-preserved-then-rest-c : goal.loop-i-preserved-then-rest-c
loop-i-preserved-then-rest-c c =
    let l = c.loop-i in
    let s : choose (l.i - 1) l.k ≤ l.rest = omega (arith, c.calculate_combo-c.ensures) in
    let t = fill-yes c.args.index.0 l.combo l.rest l.k l.i c.loop-i-test.true l.invariant s in
    rw c.calculate_combo-c.ensures t.1

pub loop-i-preserved : goal.loop-i-preserved
loop-i-preserved c =
    let l = c.loop-i in
    fill-no c.args.index.0 l.combo l.rest l.k l.i c.loop-i-test.true l.invariant (omega (arith, c.calculate_combo-c.ensures))

pub returns : goal.returns
returns c =
    let l = c.loop-i in
    fill_end c.args.index.0 l.combo l.rest l.k l.i c.loop-i-test.false l.invariant
