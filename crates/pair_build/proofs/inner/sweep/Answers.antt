-- `pair_build::inner::sweep` meets its contract: pair p is expanded or is not at distance d, and at the end all pairs have been passed. Assumes nothing.
use mathlib.Core.Path.{◌≡◌, sym, subst, ◌∙◌}
use Prim.Native.Nat.{◌<◌}
use native.Mathlib.Omega.{arith}
use lib.Dec.{T}
use Rattle.pair_table.specs.Over.{step_by, pairs_of}
use Rattle.pair_table.specs.Pairs.{held}
use Rattle.pair_table.proofs.Steps.{ready-closed, ready-pos}
use Rattle.pair_table.proofs.Held.{held_in}
use Rattle.pair_table.proofs.Bfs.{swept-skip, swept-expand, swept_all}
use Rattle.pair_build.proofs.inner.sweep.Goals.{then-tab-p, else-tab-p}
use Rattle.pair_build.proofs.inner.sweep.Goals as goal

pub loop-p-preserved : goal.loop-p-preserved
loop-p-preserved c =
    let a = c.args in
    let s = a.pairs.now in
    let step = step_by s in
    let l = c.loop-p in
    let e = held_in l.tab l.p 0 (omega arith) in
    let lp : l.p < pairs_of s = omega (arith, c.requires.ready.sized.pairs) in
    elim c.if-tab-p.branch [
      | then-tab-p w ↦
          let h : held l.tab l.p ≡ a.d = sym e ∙ w.if-tab-p.true in
          rw (w.tab-is, w.met-is)
          (swept-expand step s.moves a.d (pairs_of s) l.p l.tab l.invariant.0 lp c.requires.d_bound w.expand.new.tab h w.expand.ensures.expanded, λ f. absurd (subst T f tt))
      | else-tab-p w ↦
          rw (w.tab-is, w.met-is) (swept-skip step s.moves a.d (pairs_of s) l.p l.tab l.invariant.0 lp c.requires.d_bound (λ h. w.if-tab-p.false (e ∙ h)), l.invariant.1)
    ]

pub returns-clause-layer_2 : goal.returns-clause-layer_2
returns-clause-layer_2 c =
    let a = c.args in
    let s = a.pairs.now in
    let e : c.loop-p.p ≡ pairs_of s = omega (arith, c.requires.ready.sized.pairs) in
    let y = rw e at c.loop-p.invariant.0 in
    swept_all (step_by s) s.moves a.d (pairs_of s) (ready-pos _ _ _ _ _ _ c.requires.ready) (ready-closed _ _ _ _ _ _ c.requires.ready) c.loop-p.tab y
