-- `pair_build::inner::flood` meets its contract. A sweep that met no pair changed nothing, and then no walk leads on (`stuck`). Assumes nothing.
use mathlib.Core.Path.{◌≡◌, sym, subst}
use mathlib.Core.List.{List}
use Prim.Native.Nat.{ℕ}
use native.Mathlib.Omega.{arith}
use Rattle.pair_table.specs.Over.{step_by, pairs_of, LayerBy}
use Rattle.pair_table.proofs.Steps.{ready-closed, ready-pos}
use Rattle.pair_table.proofs.Bfs.{stuck}
use Rattle.pair_build.proofs.inner.flood.Goals as goal

pub returns-then-not-sweep-clause-layer_2 : goal.returns-then-not-sweep-clause-layer_2
returns-then-not-sweep-clause-layer_2 c =
    let s = c.args.pairs.now in
    let tab' = c.sweep.new.tab in
    let same : tab' ≡ c.loop-d.tab = c.sweep.ensures.tab_unchanged c.if-not-sweep.true in
    let y = subst (λ (t : List ℕ). LayerBy s c.loop-d.d t) (sym same) c.loop-d.invariant in
    stuck (step_by s) s.moves c.loop-d.d (pairs_of s) (ready-pos _ _ _ _ _ _ c.requires.ready) (ready-closed _ _ _ _ _ _ c.requires.ready) tab' (omega arith) y c.sweep.ensures.layer_2
