-- `solution::put_turns` meets its contract: the word, the words of each list, LF. Assumes nothing.
use mathlib.Core.Path.{sym, ap, ◌∙◌}
use mathlib.Core.List.{[], ◌∷◌, ◌++◌}
use Prim.Native.Nat.{◌+◌, ◌≤◌, ◌<◌}
use native.Mathlib.Omega.{arith}
use lib.ListN.{length}
use Rattle.lines.proofs.Written.{behind, last_byte}
use Rattle.words.specs.Answers.{over}
use Rattle.solution.specs.Text.{solution_word}
use Rattle.solution.proofs.Sizes.{words, turns-are, turns-length}
use Rattle.solution.proofs.put_turns.Goals as goal

pub put_bytes-a-requires : goal.put_bytes-a-requires
put_bytes-a-requires c =
    let a = c.args in
    let one = a.one.now in
    let two = a.two.now in
    let size = turns-length one two in
    omega (arith, c.requires.2, size)

pub put_spaced-b-requires : goal.put_spaced-b-requires
put_spaced-b-requires c =
    let a = c.args in
    let one = a.one.now in
    let two = a.two.now in
    let size = turns-length one two in
    (c.requires.0, omega (arith, c.requires.2, size, c.put_bytes-a.ensures.value, c.put_bytes-a.auto.out))

pub put_spaced-c-requires : goal.put_spaced-c-requires
put_spaced-c-requires c =
    let a = c.args in
    let one = a.one.now in
    let two = a.two.now in
    let size = turns-length one two in
    (c.requires.1, omega (arith, c.requires.2, size, c.put_bytes-a.ensures.value, c.put_bytes-a.auto.out, c.put_spaced-b.ensures.value, c.put_spaced-b.auto.text))

pub bounds-out-c : goal.bounds-out-c
bounds-out-c c =
    let a = c.args in
    let one = a.one.now in
    let two = a.two.now in
    let size = turns-length one two in
    omega (arith, c.requires.2, size, c.put_bytes-a.ensures.value, c.put_bytes-a.auto.out, c.put_spaced-b.ensures.value, c.put_spaced-b.auto.text, c.put_spaced-c.ensures.value, c.put_spaced-c.auto.text)

pub returns : goal.returns
returns c =
    let a = c.args in
    let one = a.one.now in
    let two = a.two.now in
    let size = turns-length one two in
    let d = a.out.now in
    let e₁ = c.put_bytes-a.ensures in
    let e₂ = c.put_spaced-b.ensures in
    let e₃ = c.put_spaced-c.ensures in
    let d₁ = c.put_bytes-a.new.out in
    let d₂ = c.put_spaced-b.new.text in
    let d₃ = c.put_spaced-c.new.text in
    let a₁ = c.put_bytes-a.result in
    let a₂ = c.put_spaced-b.result in
    let a₃ = c.put_spaced-c.result in
    let r₁ : 0 + length solution_word ≤ length d = omega (arith, c.requires.2, size) in
    let r₂ : a₁ + length (words one) ≤ length d₁ = omega (arith, c.requires.2, size, c.put_bytes-a.ensures.value, c.put_bytes-a.auto.out) in
    let r₃ : a₂ + length (words two) ≤ length d₂ = omega (arith, c.requires.2, size, c.put_bytes-a.ensures.value, c.put_bytes-a.auto.out, c.put_spaced-b.ensures.value, c.put_spaced-b.auto.text) in
    let r₄ : a₃ < length d₃ = omega (arith, c.requires.2, size, c.put_bytes-a.ensures.value, c.put_bytes-a.auto.out, c.put_spaced-b.ensures.value, c.put_spaced-b.auto.text, c.put_spaced-c.ensures.value, c.put_spaced-c.auto.text) in
    let end = behind d₂ d₃ _ (words two) (10 ∷ []) a₂ a₃ r₃ e₃.text_after e₃.value (last_byte d₃ a₃ 10 r₄) in
    let rest = behind d₁ d₂ _ (words one) (words two ++ (10 ∷ [])) a₁ a₂ r₂ e₂.text_after e₂.value end in record { value = omega (arith, size, e₁.value, e₂.value, e₃.value); out_after = behind d d₁ _ solution_word (words one ++ (words two ++ (10 ∷ []))) 0 a₁ r₁ e₁.out_after e₁.value rest ∙ ap (over d 0) (sym (turns-are one two)) }
