-- `list_text::inner::put_spaced` meets its contract. The loop keeps what is to come: the words that are left, written behind those that are. Assumes nothing.
use mathlib.Core.Path.{◌≡◌, sym, ap, ap₂, ◌∙◌}
use mathlib.Core.List.{List, ◌++◌}
use Prim.Native.Nat.{ℕ, ◌≤◌, ◌<◌, ◌+◌}
use native.Mathlib.Omega.{arith}
use lib.ListN.{length, get_or, set, length-set}
use Rattle.base.proofs.Tests.{under_at}
use Rattle.words.specs.Answers.{over}
use Rattle.words.specs.Text.{word_of}
use Rattle.words.proofs.Over.{over_none, over-cons, over-append}
use Rattle.words.proofs.Text.{text_from, text-next, text-next-size, text-end}
use Rattle.list_text.proofs.inner.put_spaced.Goals as goal

pub bounds-text-end : goal.bounds-text-end
bounds-text-end c =
    let ms = c.args.moves.now in
    let l = c.loop-m in
    let size = text-next-size ms l.m-index (omega arith) in
    omega arith

pub put_word-end-requires : goal.put_word-end-requires
put_word-end-requires c =
    let ms = c.args.moves.now in
    let l = c.loop-m in
    let size = text-next-size ms l.m-index (omega arith) in
    (under_at 18 ms l.m-index c.requires.0 (omega arith), simp length-set (omega arith))

pub loop-m-preserved : goal.loop-m-preserved
loop-m-preserved c =
    let ms = c.args.moves.now in
    let l = c.loop-m in
    let size = text-next-size ms l.m-index (omega arith) in
    let w = word_of (get_or ms l.m-index 0) in
    let rest = text_from ms (l.m-index + 1) in
    let e = c.put_word-end.ensures in
    let same = length-set l.text l.end 32 in
    let kept = c.put_word-end.auto.text in
    let fits : l.end < length l.text = omega arith in
    let room : l.end + 1 + length w ≤ length (set l.text l.end 32) = omega arith in
    let step : over c.put_word-end.new.text c.put_word-end.result rest ≡ over l.text l.end (text_from ms l.m-index) =
    ap₂ (λ (d : List ℕ) (k : ℕ). over d k rest) e.text_after e.value
    ∙ over-append (set l.text l.end 32) (l.end + 1) w rest room
    ∙ over-cons l.text l.end 32 (w ++ rest) fits
    ∙ ap (over l.text l.end) (sym (text-next ms l.m-index (omega arith))) in
    (kept ∙ same ∙ l.invariant.0, omega (arith, e.value), omega (arith, e.value), step ∙ l.invariant.3)

pub returns : goal.returns
returns c =
    let l = c.loop-m in
    let none = text-end c.args.moves.now l.m-index (omega arith) in record { value = omega (arith, none, l.invariant.2); text_after = sym (over_none l.text l.end (text_from c.args.moves.now l.m-index) none) ∙ l.invariant.3 }
