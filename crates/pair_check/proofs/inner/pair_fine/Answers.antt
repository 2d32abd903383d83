-- `pair_check::inner::pair_fine` meets its contract: what the m-th neighbour holds. Assumes nothing.
use mathlib.Core.Path.{◌≡◌, ap, ◌∙◌}
use Prim.Native.Nat.{◌-◌, ◌≤◌}
use native.Mathlib.Omega.{arith}
use Rattle.pair_table.specs.Over.{step_by}
use Rattle.pair_table.specs.Pairs.{held}
use Rattle.pair_table.proofs.Steps.{step-is}
use Rattle.pair_table.proofs.Held.{held_in}
use Rattle.pair_check.proofs.PairRule.{seen_one, seen_more, fine-between}
use Rattle.pair_check.proofs.inner.pair_fine.Goals.{else-w-v-2, then-w-v-2}
use Rattle.pair_check.proofs.inner.pair_fine.Goals as goal

pub returns-then-w-v : goal.returns-then-w-v
returns-then-w-v c f =
    let a = c.args in
    let step = step_by a.pairs.now in
    let dist = held a.tab.now in
    let v-is = held_in a.tab.now a.p 0 (omega arith) in
    let w-is : c.held_at-w.result ≡ dist (step a.p c.loop-m.m) = c.held_at-w.ensures ∙ ap dist (c.neighbour_of.ensures ∙ step-is _ _ _ _ _ _ _ _ c.rows_of-i.ensures.first c.rows_of-i.ensures.second) in
    omega (arith, v-is, w-is, (fine-between step a.pairs.now.moves dist a.p c.if-p-eq0.false f).none_below c.loop-m.m c.loop-m-test.true)

pub loop-m-preserved : goal.loop-m-preserved
loop-m-preserved c =
    let a = c.args in
    let step = step_by a.pairs.now in
    let k = a.pairs.now.moves in
    let dist = held a.tab.now in
    let v-is = held_in a.tab.now a.p 0 (omega arith) in
    let w-is : c.held_at-w.result ≡ dist (step a.p c.loop-m.m) = c.held_at-w.ensures ∙ ap dist (c.neighbour_of.ensures ∙ step-is _ _ _ _ _ _ _ _ c.rows_of-i.ensures.first c.rows_of-i.ensures.second) in
    let low : dist a.p - 1 ≤ dist (step a.p c.loop-m.m) = omega (arith, v-is, w-is) in
    elim c.if-w-v-2.branch [
      | then-w-v-2 w ↦ rw w.one-is (seen_one step k dist a.p c.loop-m.m _ c.loop-m.invariant low (omega (arith, v-is, w-is)))
      | else-w-v-2 w ↦ rw w.one-is (seen_more step k dist a.p c.loop-m.m _ c.loop-m.invariant low (omega (arith, v-is, w-is)))
    ]
