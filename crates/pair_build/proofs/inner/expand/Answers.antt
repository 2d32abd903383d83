-- `pair_build::inner::expand` meets its contract: a neighbour that held 255 gets d, and another keeps what it holds. Assumes nothing.
use mathlib.Core.Path.{◌≡◌, sym, ap, ◌∙◌}
use Prim.Native.Nat.{◌<◌}
use native.Mathlib.Omega.{arith}
use lib.ListN.{length, get_or}
use Rattle.pair_table.specs.Over.{step_by}
use Rattle.pair_table.specs.Pairs.{held}
use Rattle.pair_table.proofs.Steps.{ready-closed, step-is}
use Rattle.pair_table.proofs.Held.{held_in}
use Rattle.pair_table.proofs.Bfs.{expanded-keep, expanded-set}
use Rattle.pair_build.proofs.inner.expand.Goals.{else-tab-q, then-tab-q}
use Rattle.pair_build.proofs.inner.expand.Goals as goal

pub bounds-tab-q : goal.bounds-tab-q
bounds-tab-q c =
    let a = c.args in
    let h = ready-closed _ _ _ _ _ _ c.requires.ready a.p c.loop-m.m c.requires.p_bound c.loop-m-test.true in
    let q-is : c.neighbour_of-q.result ≡ step_by a.pairs.now a.p c.loop-m.m = c.neighbour_of-q.ensures ∙ step-is _ _ _ _ _ _ _ _ c.rows_of-i.ensures.first c.rows_of-i.ensures.second in
    omega (arith, h, q-is, c.requires.ready.sized.pairs)

pub loop-m-preserved : goal.loop-m-preserved
loop-m-preserved c =
    let a = c.args in
    let step = step_by a.pairs.now in
    let m = c.loop-m.m in
    let tab = c.loop-m.tab in
    let r = c.requires.ready in
    let h = ready-closed _ _ _ _ _ _ r a.p m c.requires.p_bound c.loop-m-test.true in
    let q-is : c.neighbour_of-q.result ≡ step a.p m = c.neighbour_of-q.ensures ∙ step-is _ _ _ _ _ _ _ _ c.rows_of-i.ensures.first c.rows_of-i.ensures.second in
    let q-in : c.neighbour_of-q.result < length tab = omega (arith, h, q-is, r.sized.pairs) in
    let reads : get_or tab c.neighbour_of-q.result 0 ≡ held tab (step a.p m) = held_in tab c.neighbour_of-q.result 0 q-in ∙ ap (held tab) q-is in
    let l : step a.p m < length tab = rw q-is at q-in in
    elim c.if-tab-q.branch [
      | then-tab-q w ↦ rw (w.tab-is, q-is) (expanded-set step a.p a.d m a.tab.now tab c.loop-m.invariant l (sym reads ∙ w.if-tab-q.true))
      | else-tab-q w ↦ rw w.tab-is (expanded-keep step a.p a.d m a.tab.now tab c.loop-m.invariant (λ e. w.if-tab-q.false (reads ∙ e)))
    ]
