-- `solution::draw` meets its contract. At the head of the loop, what is left of the drawing is to be written behind what is. Assumes nothing.
use mathlib.Core.Path.{◌≡◌}
use Rattle.words.specs.Answers.{over}
use Rattle.solution.specs.Drawing.{drawing}
use Rattle.solution.proofs.Stickers.{shown_from}
use Rattle.solution.proofs.draw.Given as goal

abbrev pub invariant-loop-i : goal.invariant-loop-i
invariant-loop-i l = over l.out l.i (shown_from l.s l.i) ≡ over l.initial.out 0 (drawing l.s)
