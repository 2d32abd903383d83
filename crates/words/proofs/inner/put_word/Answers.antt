-- `words::inner::put_word` meets its contract: the letter, and the mark behind it. Assumes nothing.
use mathlib.Core.Path.{sym, ap, ◌∙◌}
use mathlib.Core.List.{[], ◌∷◌}
use Prim.Native.Nat.{ℕ, ◌+◌, ◌-◌, ◌/◌, ◌%◌, ◌<◌}
use native.Mathlib.Omega.{arith}
use lib.ListN.{length, get_or, set, length-set}
use Rattle.words.specs.Answers.{over}
use Rattle.words.specs.Text.{letters, word_of}
use Rattle.words.proofs.Over.{over_nothing, over-cons}
use Rattle.words.proofs.Words.{word-one, word_two}
use Rattle.words.proofs.inner.put_word.Goals as goal

pub bounds-text-at : goal.bounds-text-at
unfolding word_of
bounds-text-at c = omega (arith, c.requires.1)

pub returns-then-m-eq0 : goal.returns-then-m-eq0
returns-then-m-eq0 c =
    let a = c.args in
    let d = a.text.now in
    let x = get_or letters (a.m / 3) 0 in
    let w = word-one a.m c.if-m-eq0.true in
    let n = ap length w in
    let room : a.at < length d = omega (arith, c.requires.1) in record { value = ap (λ (k : ℕ). a.at + k) (sym n); text_after = sym (over_nothing (set d a.at x) (a.at + 1)) ∙ over-cons d a.at x [] room ∙ sym (ap (over d a.at) w) }

pub bounds-text-at-2 : goal.bounds-text-at-2
bounds-text-at-2 c =
    let a = c.args in
    let n = ap length (word_two a.m c.if-m-eq0.false) in
    simp length-set (omega (arith, c.requires.1))

pub returns : goal.returns
returns c =
    let a = c.args in
    let d = a.text.now in
    let x = get_or letters (a.m / 3) 0 in
    let y : ℕ = get_or (50 ∷ 39 ∷ []) (a.m % 3 - 1) 0 in
    let w = word_two a.m c.if-m-eq0.false in
    let n = ap length w in
    let room : a.at < length d = omega (arith, c.requires.1) in
    let next : a.at + 1 < length (set d a.at x) = omega (arith, c.requires.1, length-set d a.at x) in record {
      value = ap (λ (k : ℕ). a.at + k) (sym n);
      text_after = sym (over_nothing (set (set d a.at x) (a.at + 1) y) (a.at + 1 + 1))
          ∙ over-cons (set d a.at x) (a.at + 1) y [] next
          ∙ over-cons d a.at x (y ∷ []) room
          ∙ sym (ap (over d a.at) w);
    }
