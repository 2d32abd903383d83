-- `list_text::inner::put_text` meets its contract: the first word, and the others behind it. Assumes nothing.
use mathlib.Core.Path.{◌≡◌, sym, ap, ap₂, ◌∙◌}
use mathlib.Core.List.{List, map}
use Prim.Native.Nat.{ℕ, ◌≤◌, ◌<◌, ◌+◌, ◌-◌}
use native.Mathlib.Omega.{arith}
use borrow.Author.Rules.{rules}
use lib.ListN.{length, get_or, take, drop, length-drop}
use lib.Seq.{take_all}
use Rattle.base.proofs.Tests.{under_at, under_drop}
use Rattle.words.specs.Answers.{over}
use Rattle.words.specs.Text.{word_of, spaced, text_of}
use Rattle.words.proofs.Over.{over_none, over-append}
use Rattle.words.proofs.Text.{text_from, text-first, text-first-size, text-nothing}
use Rattle.list_text.proofs.inner.put_text.Goals as goal

pub returns-then-is_empty : goal.returns-then-is_empty
returns-then-is_empty c = let none = text-nothing c.args.moves.now (search rules) in record { value = sym none; text_after = sym (over_none c.args.text.now 0 (text_of c.args.moves.now) none) }

pub put_word-at-requires : goal.put_word-at-requires
put_word-at-requires c =
    let ms = c.args.moves.now in
    let some : 0 < length ms = search rules in
    let size = text-first-size ms some in
    (under_at 18 ms 0 c.requires.0 some, omega (arith, c.requires.1, size))

pub put_spaced-requires : goal.put_spaced-requires
put_spaced-requires c =
    let ms = c.args.moves.now in
    let some : 0 < length ms = search rules in
    let size = text-first-size ms some in
    let rest : take (length ms - 1) (drop 1 ms) ≡ drop 1 ms = take_all (length ms - 1) (drop 1 ms) (omega (arith, length-drop 1 ms)) in
    let words : length (spaced (map word_of (take (length ms - 1) (drop 1 ms)))) ≡ length (text_from ms 1) = ap (λ (l : List ℕ). length (spaced (map word_of l))) rest in
    (rw rest (under_drop 18 1 ms c.requires.0), omega (arith, c.requires.1, size, words, c.put_word-at.ensures.value, c.put_word-at.auto.text))

pub returns : goal.returns
returns c =
    let ms = c.args.moves.now in
    let d = c.args.text.now in
    let some : 0 < length ms = search rules in
    let size = text-first-size ms some in
    let first = word_of (get_or ms 0 0) in
    let rest : take (length ms - 1) (drop 1 ms) ≡ drop 1 ms = take_all (length ms - 1) (drop 1 ms) (omega (arith, length-drop 1 ms)) in
    let words = ap (λ (l : List ℕ). spaced (map word_of l)) rest in
    let e = c.put_word-at.ensures in
    let f = c.put_spaced.ensures in
    let room : 0 + length first ≤ length d = omega (arith, c.requires.1, size) in record {
      value = omega (arith, size, e.value, f.value, ap length words);
      text_after = f.text_after
          ∙ ap (over c.put_word-at.new.text c.put_word-at.result) words
          ∙ ap₂ (λ (s : List ℕ) (k : ℕ). over s k (text_from ms 1)) e.text_after e.value
          ∙ over-append d 0 first (text_from ms 1) room
          ∙ ap (over d 0) (sym (text-first ms some));
    }
