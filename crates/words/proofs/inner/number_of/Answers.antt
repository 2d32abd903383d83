-- `words::inner::number_of` meets its contract: a letter, and at most one mark after it. Assumes nothing.
use mathlib.Core.Path.{◌≡◌, sym, ap, ◌∙◌}
use mathlib.Core.List.{[], ◌∷◌}
use Prim.Native.Nat.{ℕ, ◌+◌, ◌*◌, ◌<◌}
use native.Mathlib.Omega.{arith}
use lib.Dec.{eqb}
use lib.ListN.{length, get_or}
use borrow.Author.Tests.{eq-eqb, ne_eqb}
use Rattle.words.specs.Text.{letters, place, number_of}
use Rattle.words.proofs.Words.{place-le, no_word, is_word, no_bytes, one_byte, two_bytes}
use Rattle.words.proofs.inner.number_of.Goals as goal

pub returns-then-n-eq0 : goal.returns-then-n-eq0
returns-then-n-eq0 c = no_bytes c.args.word.now c.if-n-eq0.true

pub returns-then-layer-eq6 : goal.returns-then-layer-eq6
returns-then-layer-eq6 c =
    let w = c.args.word.now in
    no_word w (λ s. omega (arith, s.letter, c.layer_of-layer.ensures))

pub overflow_mul-result : goal.overflow_mul-result
overflow_mul-result c = omega (arith, c.layer_of-layer.ensures, place-le (eqb (get_or c.args.word.now 0 0)) letters)

pub returns-then-n-eq1 : goal.returns-then-n-eq1
returns-then-n-eq1 c =
    let w = c.args.word.now in
    let a = get_or w 0 0 in
    let e = c.layer_of-layer.ensures in
    let low : place (eqb a) letters < 6 = omega (arith, place-le (eqb a) letters) in
    let n : c.layer_of-layer.result * 3 ≡ place (eqb a) letters * 3 + 0 = omega arith in
    n ∙ is_word a 0 low (omega arith) ∙ sym (ap number_of (one_byte w c.if-n-eq1.true))

pub returns-then-n-ne2 : goal.returns-then-n-ne2
returns-then-n-ne2 c =
    let w = c.args.word.now in
    no_word w (λ s. omega (arith, s.short))

pub overflow_mul-result-in-50 : goal.overflow_mul-result-in-50
overflow_mul-result-in-50 c = omega (arith, c.layer_of-layer.ensures, place-le (eqb (get_or c.args.word.now 0 0)) letters)

pub overflow_add-result : goal.overflow_add-result
overflow_add-result c = omega (arith, c.layer_of-layer.ensures, place-le (eqb (get_or c.args.word.now 0 0)) letters)

pub overflow_mul-result-in-39 : goal.overflow_mul-result-in-39
overflow_mul-result-in-39 c = omega (arith, c.layer_of-layer.ensures, place-le (eqb (get_or c.args.word.now 0 0)) letters)

pub overflow_add-result-in-39 : goal.overflow_add-result-in-39
overflow_add-result-in-39 c = omega (arith, c.layer_of-layer.ensures, place-le (eqb (get_or c.args.word.now 0 0)) letters)

pub returns-in-50 : goal.returns-in-50
returns-in-50 c =
    let w = c.args.word.now in
    let a = get_or w 0 0 in
    let e = c.layer_of-layer.ensures in
    let low : place (eqb a) letters < 6 = omega (arith, place-le (eqb a) letters) in
    let two : w ≡ a ∷ 50 ∷ [] = two_bytes w c.if-n-ne2.false ∙ ap (λ (b : ℕ). a ∷ b ∷ []) c.in-50.is in
    ap (λ (l : ℕ). l * 3 + 1) e ∙ is_word a 1 low (omega arith) ∙ sym (ap number_of two)

pub returns-in-39 : goal.returns-in-39
returns-in-39 c =
    let w = c.args.word.now in
    let a = get_or w 0 0 in
    let e = c.layer_of-layer.ensures in
    let low : place (eqb a) letters < 6 = omega (arith, place-le (eqb a) letters) in
    let two : w ≡ a ∷ 39 ∷ [] = two_bytes w c.if-n-ne2.false ∙ ap (λ (b : ℕ). a ∷ b ∷ []) c.in-39.is in
    ap (λ (l : ℕ). l * 3 + 2) e ∙ is_word a 2 low (omega arith) ∙ sym (ap number_of two)

pub returns-in_default : goal.returns-in_default
unfolding place
returns-in_default c =
    let w = c.args.word.now in
    let r = c.before.in_default.in_default-own.rest in
    no_word w (λ s. let m = simp (eq-eqb (length w) 2 c.if-n-ne2.false, ne_eqb (get_or w 1 0) 50 r.0.1, ne_eqb (get_or w 1 0) 39 r.1) at s.mark in omega arith)
