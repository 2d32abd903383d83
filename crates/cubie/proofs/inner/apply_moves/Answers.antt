-- `cubie::inner::apply_moves` meets its contract. The loop's invariant: what is left of the list gives the same cube. Assumes nothing.
use mathlib.Core.Path.{refl, sym, ap, ◌∙◌}
use Prim.Native.Nat.{◌+◌}
use native.Mathlib.Omega.{arith}
use lib.ListN.{get_or, drop, drop_of_length-le}
use Rattle.base.proofs.Steps.{next}
use Rattle.base.proofs.Tests.{under_at}
use Rattle.cubie.specs.Cube.{apply_moves}
use Rattle.cubie.specs.declared.CubieCube.{CubieCube}
use Rattle.cubie.proofs.Range.{no-refusal, in-range}
use Rattle.cubie.proofs.Turns.{turn-range}
use borrow.Author.Rules.{rules}
use Rattle.cubie.proofs.inner.apply_moves.Goals as goal

pub loop-m-init : goal.loop-m-init
loop-m-init c = (in-range c.args.c c.requires.0 (search rules) (search rules) (search rules) (search rules), refl)

pub apply_move-state-requires : goal.apply_move-state-requires
apply_move-state-requires c = (no-refusal c.loop-m.invariant.0, under_at 18 c.args.moves.now _ c.requires.1 (omega arith))

pub loop-m-preserved : goal.loop-m-preserved
unfolding apply_moves
loop-m-preserved c =
    let ms = c.args.moves.now in
    let l = c.loop-m in
    let h = c.loop-m-test.true in
    let e = c.apply_move-state.ensures in (
      rw e (turn-range l.invariant.0 (get_or ms l.m-index 0) (under_at 18 ms l.m-index c.requires.1 h)),
      ap (λ (d : CubieCube). apply_moves d (drop (l.m-index + 1) ms)) e ∙ sym (ap (apply_moves l.state) (next ms l.m-index h)) ∙ l.invariant.1,
    )

pub returns : goal.returns
unfolding apply_moves
returns c =
    let l = c.loop-m in
    sym (ap (apply_moves l.state) (drop_of_length-le c.args.moves.now c.loop-m-test.false)) ∙ l.invariant.1
