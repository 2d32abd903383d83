-- `orientation::inner::index_to_orientation` meets its contract. The loop's invariant: the places from i on, but for the last, hold the last
-- digits, rest is the other digits, and sum the sum of those held. Assumes nothing.
use Prim.Native.Nat.{ℕ, ◌-◌}
use native.Mathlib.Omega.{arith}
use lib.ListN.{replicate, length-replicate}
use Rattle.numbering.proofs.Orientation.{fill_start, fill-sum, fill-turn, fill_end}
use Rattle.orientation.proofs.inner.index_to_orientation.Goals as goal

pub loop-i-init : goal.loop-i-init
loop-i-init g c =
    let a = c.args in
    let n = g.row.N - 1 in
    let e = fill_start a.cases a.index n (replicate g.row.N 0) in
    (omega arith, omega (arith, c.requires.0, length-replicate {A = ℕ}), e.0, e.1, e.2)

pub overflow_add-sum : goal.overflow_add-sum
overflow_add-sum g c =
    let a = c.args in
    let l = c.loop-i in
    omega (arith, fill-sum a.cases (g.row.N - 1) a.index l.rest l.sum l.i l.s c.requires.2 c.requires.3 (omega (arith, c.requires.1)) c.loop-i-test.true l.invariant.0 l.invariant.1 l.invariant.2 l.invariant.3 l.invariant.4)

pub loop-i-preserved : goal.loop-i-preserved
loop-i-preserved g c =
    let a = c.args in
    let l = c.loop-i in
    fill-turn a.cases (g.row.N - 1) a.index l.rest l.sum l.i l.s c.requires.2 c.requires.3 (omega (arith, c.requires.1)) c.loop-i-test.true l.invariant.0 l.invariant.1 l.invariant.2 l.invariant.3 l.invariant.4

pub returns : goal.returns
returns g c =
    let a = c.args in
    let l = c.loop-i in
    fill_end a.cases (g.row.N - 1) a.index l.sum l.i l.s c.loop-i-test.false l.invariant.1 c.requires.4 l.invariant.3 l.invariant.4
