-- `solution::put_counts` meets its contract: five lines, one behind the other. Assumes nothing.
use mathlib.Core.Path.{◌≡◌, sym, ap, ap₂, ◌∙◌}
use mathlib.Core.List.{◌++◌}
use Prim.Native.Nat.{ℕ, ◌+◌, ◌≤◌}
use native.Mathlib.Omega.{arith}
use lib.ListN.{length}
use Rattle.lines.specs.Lines.{line, moves_word, strokes_word}
use Rattle.lines.proofs.Written.{behind}
use Rattle.words.specs.Answers.{over}
use Rattle.words.specs.Strokes.{strokes_of}
use Rattle.solution.specs.Text.{phase1_word, phase2_word, entries_word}
use Rattle.solution.proofs.Sizes.{counts-are, counts-length}
use Rattle.solution.proofs.put_counts.Goals as goal

pub put_line-a-requires : goal.put_line-a-requires
put_line-a-requires c =
    let a = c.args in
    let one = a.one.now in
    let two = a.two.now in
    let size = counts-length one two a.count in
    omega (arith, c.requires.2, size)

pub put_line-b-requires : goal.put_line-b-requires
put_line-b-requires c =
    let a = c.args in
    let one = a.one.now in
    let two = a.two.now in
    let size = counts-length one two a.count in
    omega (arith, c.requires.2, size, c.put_line-a.ensures.value, c.put_line-a.auto.out)

pub put_line-c-requires : goal.put_line-c-requires
put_line-c-requires c =
    let a = c.args in
    let one = a.one.now in
    let two = a.two.now in
    let size = counts-length one two a.count in
    omega (arith, c.requires.2, size, c.put_line-a.ensures.value, c.put_line-a.auto.out, c.put_line-b.ensures.value, c.put_line-b.auto.out)

pub put_line-d-requires : goal.put_line-d-requires
put_line-d-requires c =
    let a = c.args in
    let one = a.one.now in
    let two = a.two.now in
    let size = counts-length one two a.count in
    let k : c.strokes.result + c.strokes-2.result ≡ strokes_of one + strokes_of two = ap₂ ◌+◌ c.strokes.ensures c.strokes-2.ensures in
    let same = ap (λ (n : ℕ). length (line strokes_word n)) k in
    omega (arith, c.requires.2, size, same, c.put_line-a.ensures.value, c.put_line-a.auto.out, c.put_line-b.ensures.value, c.put_line-b.auto.out, c.put_line-c.ensures.value, c.put_line-c.auto.out)

pub put_line-requires : goal.put_line-requires
put_line-requires c =
    let a = c.args in
    let one = a.one.now in
    let two = a.two.now in
    let size = counts-length one two a.count in
    let k : c.strokes.result + c.strokes-2.result ≡ strokes_of one + strokes_of two = ap₂ ◌+◌ c.strokes.ensures c.strokes-2.ensures in
    let same = ap (λ (n : ℕ). length (line strokes_word n)) k in
    omega (arith, c.requires.2, size, same, c.put_line-a.ensures.value, c.put_line-a.auto.out, c.put_line-b.ensures.value, c.put_line-b.auto.out, c.put_line-c.ensures.value, c.put_line-c.auto.out, c.put_line-d.ensures.value, c.put_line-d.auto.out)

pub returns : goal.returns
returns c =
    let a = c.args in
    let one = a.one.now in
    let two = a.two.now in
    let size = counts-length one two a.count in
    let k : c.strokes.result + c.strokes-2.result ≡ strokes_of one + strokes_of two = ap₂ ◌+◌ c.strokes.ensures c.strokes-2.ensures in
    let same = ap (λ (n : ℕ). length (line strokes_word n)) k in
    let d = a.out.now in
    let n = length one + length two in
    let m = strokes_of one + strokes_of two in
    let e₁ = c.put_line-a.ensures in
    let d₁ = c.put_line-a.new.out in
    let a₁ = c.put_line-a.result in
    let e₂ = c.put_line-b.ensures in
    let d₂ = c.put_line-b.new.out in
    let a₂ = c.put_line-b.result in
    let e₃ = c.put_line-c.ensures in
    let d₃ = c.put_line-c.new.out in
    let a₃ = c.put_line-c.result in
    let e₄ = c.put_line-d.ensures in
    let d₄ = c.put_line-d.new.out in
    let a₄ = c.put_line-d.result in
    let e₅ = c.put_line.ensures in
    let d₅ = c.put_line.new.out in
    let a₅ = c.put_line.result in
    let l₁ = line phase1_word (length one) in
    let l₂ = line phase2_word (length two) in
    let l₃ = line moves_word n in
    let l₄ = line strokes_word m in
    let l₅ = line entries_word a.count in
    let r₁ : a.at + length l₁ ≤ length d = omega (arith, c.requires.2, size) in
    let r₂ : a₁ + length l₂ ≤ length d₁ = omega (arith, c.requires.2, size, c.put_line-a.ensures.value, c.put_line-a.auto.out) in
    let r₃ : a₂ + length l₃ ≤ length d₂ = omega (arith, c.requires.2, size, c.put_line-a.ensures.value, c.put_line-a.auto.out, c.put_line-b.ensures.value, c.put_line-b.auto.out) in
    let r₄ : a₃ + length l₄ ≤ length d₃ = omega (arith, c.requires.2, size, c.put_line-a.ensures.value, c.put_line-a.auto.out, c.put_line-b.ensures.value, c.put_line-b.auto.out, c.put_line-c.ensures.value, c.put_line-c.auto.out) in
    let t₄ : a₄ ≡ a₃ + length l₄ = omega (arith, e₄.value, same) in
    let w₄ = e₄.out_after ∙ ap (λ (x : ℕ). over d₃ a₃ (line strokes_word x)) k in
    let s₄ = behind d₃ d₄ d₅ l₄ l₅ a₃ a₄ r₄ w₄ t₄ e₅.out_after in
    let s₃ = behind d₂ d₃ d₅ l₃ (l₄ ++ l₅) a₂ a₃ r₃ e₃.out_after e₃.value s₄ in
    let s₂ = behind d₁ d₂ d₅ l₂ (l₃ ++ (l₄ ++ l₅)) a₁ a₂ r₂ e₂.out_after e₂.value s₃ in
    let s₁ = behind d d₁ d₅ l₁ (l₂ ++ (l₃ ++ (l₄ ++ l₅))) a.at a₁ r₁ e₁.out_after e₁.value s₂ in record { value = omega (arith, size, e₁.value, e₂.value, e₃.value, t₄, e₅.value); out_after = s₁ ∙ ap (over d a.at) (sym (counts-are one two a.count)) }
