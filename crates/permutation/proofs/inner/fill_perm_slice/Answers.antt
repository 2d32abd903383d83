-- `permutation::inner::fill_perm_slice` meets its contract. The loop's invariant: the places from i on hold the permutation of the last digits, and rest is the
-- other digits. Assumes nothing.
use mathlib.Core.Path.{refl}
use Prim.Native.Nat.{◌+◌, ◌-◌, ◌%◌}
use native.Mathlib.Omega.{arith}
use lib.ListN.{length}
use Rattle.numbering.proofs.Fill.{fill_start, fill-small, fill-turn, fill_end}
use Rattle.permutation.proofs.inner.fill_perm_slice.Goals as goal

pub loop-i-init : goal.loop-i-init
loop-i-init c =
    let a = c.args in
    let e = fill_start a.base a.index a.s.now in
    (omega arith, refl, e.0, e.1)

pub raise-requires : goal.raise-requires
raise-requires c =
    let a = c.args in
    let p = c.requires in
    let l = c.loop-i in
    fill-small a.base (length a.s.now) a.index l.rest l.i l.s c.loop-i-test.true l.invariant.0 l.invariant.1 l.invariant.2 l.invariant.3
    (a.base + l.rest % (length a.s.now - (l.i - 1))) p.1 p.0

pub loop-i-preserved : goal.loop-i-preserved
loop-i-preserved c =
    let a = c.args in
    let l = c.loop-i in
    fill-turn a.base (length a.s.now) a.index l.rest l.i l.s c.loop-i-test.true l.invariant.0 l.invariant.1
    l.invariant.2 l.invariant.3 c.raise.new.s c.raise.ensures

pub returns : goal.returns
returns c =
    let a = c.args in
    let l = c.loop-i in
    fill_end a.base (length a.s.now) a.index l.i l.s c.loop-i-test.false c.requires.2 l.invariant.3
