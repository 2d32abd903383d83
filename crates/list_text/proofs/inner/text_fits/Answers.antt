-- `list_text::inner::text_fits` meets its contract. The loop keeps the answer: what is left of the list, in what is left of the room. Assumes nothing.
use mathlib.Core.Path.{sym, ap, ◌∙◌}
use Prim.Native.Nat.{ℕ}
use native.Mathlib.Omega.{arith}
use lib.Dec.{leb, leb-zero}
use lib.ListN.{get_or, drop, drop_of_length-le}
use borrow.Author.Tests.{lt-leb}
use Rattle.base.specs.Lists.{total}
use Rattle.base.proofs.Steps.{total-step}
use Rattle.words.proofs.Text.{need, text-fits}
use Rattle.words.proofs.Words.{word-short}
use mathlib.Core.List.{List}
use Rattle.list_text.proofs.inner.text_fits.Goals as goal

pub overflow_add-need : goal.overflow_add-need
overflow_add-need c = omega (arith, c.word_len-need.ensures, word-short (get_or c.args.moves.now c.loop-m.m-index 0))

pub returns-then-left-need : goal.returns-then-left-need
returns-then-left-need c =
    let ms = c.args.moves.now in
    let l = c.loop-m in
    let step = total-step need ms l.m-index (omega arith) in
    sym (lt-leb (total need (drop l.m-index ms)) l.left (omega (arith, c.word_len-need.ensures))) ∙ l.invariant.1 ∙ text-fits ms c.args.room

pub returns : goal.returns
returns c =
    let ms = c.args.moves.now in
    let l = c.loop-m in
    sym (ap (λ (t : List ℕ). leb (total need t) l.left) (drop_of_length-le ms (omega arith)) ∙ leb-zero l.left) ∙ l.invariant.1 ∙ text-fits ms c.args.room
