-- `numbering::inner::e_combo_to_index` meets its contract. The loop's invariant: the number so far and the number of the k pieces before place i make the
-- whole. Assumes nothing.
use mathlib.Core.Path.{◌≡◌}
use native.Mathlib.Omega.{arith}
use borrow.Author.Rules.{rules}
use lib.ListN.{length}
use Rattle.numbering.proofs.Combination.{count_yes, count_no, count-end}
use Rattle.numbering.proofs.inner.e_combo_to_index.Goals as goal

pub overflow_add-index : goal.overflow_add-index
overflow_add-index c =
    let edge = c.args.edge in
    let l = c.loop-i in
    let size : length edge ≡ 12 = search rules in
    let t = count_yes edge size l.index l.k l.i c.loop-i-test.true l.invariant c.requires c.if-edge-i-lt4.true in
    omega (arith, t.1, c.calculate_combo-index.ensures)

pub overflow_sub-k : goal.overflow_sub-k
overflow_sub-k c =
    let edge = c.args.edge in
    let l = c.loop-i in
    let size : length edge ≡ 12 = search rules in
    let t = count_yes edge size l.index l.k l.i c.loop-i-test.true l.invariant c.requires c.if-edge-i-lt4.true in
    omega (arith, t.0)

pub loop-i-preserved-then-edge-i-lt4 : goal.loop-i-preserved-then-edge-i-lt4
loop-i-preserved-then-edge-i-lt4 c =
    let edge = c.args.edge in
    let l = c.loop-i in
    let size : length edge ≡ 12 = search rules in
    let t = count_yes edge size l.index l.k l.i c.loop-i-test.true l.invariant c.requires c.if-edge-i-lt4.true in
    rw c.calculate_combo-index.ensures t.2

pub loop-i-preserved : goal.loop-i-preserved
loop-i-preserved c =
    let edge = c.args.edge in
    let l = c.loop-i in
    let size : length edge ≡ 12 = search rules in
    count_no edge size l.index l.k l.i c.loop-i-test.true l.invariant c.if-edge-i-lt4.false

pub returns : goal.returns
returns c =
    let l = c.loop-i in
    count-end c.args.edge l.index l.k l.i c.loop-i-test.false l.invariant
