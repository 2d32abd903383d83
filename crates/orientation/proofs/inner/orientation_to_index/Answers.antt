-- `orientation::inner::orientation_to_index` meets its contract. The loop's invariant: the places passed, in the base, and the number of what is
-- left make the number of the whole. Assumes nothing.
use native.Mathlib.Omega.{arith}
use Rattle.numbering.proofs.Orientation.{digits_step, digits-fit}
use Rattle.orientation.proofs.inner.orientation_to_index.Goals as goal

pub overflow_mul-index : goal.overflow_mul-index
overflow_mul-index c =
    let a = c.args in
    let l = c.loop-x in
    omega (arith, digits-fit a.cases a.s.now l.x-index l.index (omega arith) l.invariant c.requires.0 c.requires.1 c.requires.2)

pub overflow_add-index : goal.overflow_add-index
overflow_add-index c =
    let a = c.args in
    let l = c.loop-x in
    omega (arith, digits-fit a.cases a.s.now l.x-index l.index (omega arith) l.invariant c.requires.0 c.requires.1 c.requires.2)

pub loop-x-preserved : goal.loop-x-preserved
loop-x-preserved c =
    let a = c.args in
    let l = c.loop-x in
    digits_step a.cases a.s.now l.x-index l.index (omega arith) l.invariant
