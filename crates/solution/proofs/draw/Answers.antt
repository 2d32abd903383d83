-- `solution::draw` meets its contract. At the head of the loop, what is left of the drawing is to be written behind what is. Assumes nothing.
use mathlib.Core.Path.{ap, ◌∙◌}
use Prim.Native.Nat.{ℕ, ◌+◌, ◌<◌}
use native.Mathlib.Omega.{arith}
use lib.ListN.{length, set}
use Rattle.base.proofs.Tests.{under_at}
use Rattle.words.specs.Answers.{over}
use Rattle.solution.proofs.Stickers.{unfolded, shown_from, drawn, stickers-under, draw-next}
use Rattle.solution.proofs.draw.Goals as goal

pub loop-i-init : goal.loop-i-init
loop-i-init c = ap (over c.args.out.now 0) (drawn c.args.s.now)

pub shown-requires : goal.shown-requires
shown-requires c = (c.requires.0, under_at 102 unfolded c.loop-i.i stickers-under c.loop-i-test.true)

pub loop-i-preserved : goal.loop-i-preserved
loop-i-preserved c =
    let s = c.args.s.now in
    let l = c.loop-i in
    let room : l.i < length l.out = omega (arith, c.requires.1) in
    let step = ap (λ (x : ℕ). over (set l.out l.i x) (l.i + 1) (shown_from s (l.i + 1))) c.shown.ensures ∙ draw-next s l.out l.i c.loop-i-test.true room in
    step ∙ l.invariant
