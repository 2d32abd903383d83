-- `numbering::inner::calculate_combo` meets its contract. Assumes nothing.
use mathlib.Core.Path.{sym}
use native.Mathlib.Omega.{arith}
use Rattle.base.proofs.Combo.{choose-above}
use Rattle.numbering.proofs.Combination.{choose-start, choose-fits, choose-turn}
use Rattle.numbering.proofs.inner.calculate_combo.Goals as goal

pub returns-then-k-n : goal.returns-then-k-n
returns-then-k-n c = sym (choose-above c.args.n c.args.k c.requires.0 c.requires.1 c.if-k-n.true)

pub loop-i-init : goal.loop-i-init
loop-i-init c = choose-start c.args.n

pub overflow_mul-result : goal.overflow_mul-result
overflow_mul-result c =
    let l = c.loop-i in
    omega (arith, choose-fits c.args.n l.i l.result l.invariant c.requires.0 (omega arith))

pub loop-i-preserved : goal.loop-i-preserved
loop-i-preserved c =
    let l = c.loop-i in
    choose-turn c.args.n l.i l.result l.invariant
