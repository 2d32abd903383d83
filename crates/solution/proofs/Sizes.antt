-- How long the texts are, and what they are made of. Assumes nothing.
use mathlib.Core.Path.{◌≡◌, refl, sym, ap, ap₂, ◌∙◌}
use mathlib.Core.List.{List, [], ◌∷◌, ◌++◌, map, append_assoc}
use Prim.Native.Nat.{ℕ, ◌+◌, ◌*◌, ◌^◌, ◌≤◌, ◌<◌}
use native.Mathlib.Omega.{arith}
use lib.ListN.{length, replicate, length-append}
use Rattle.lines.specs.Lines.{decimal, line, refused_word, moves_word, strokes_word}
use Rattle.lines.proofs.Written.{digits_le, line-length}
use Rattle.refusal.specs.declared.Refusal.{Refusal}
use Rattle.refusal.specs.Refusals.{number}
use Rattle.words.specs.Answers.{over}
use Rattle.words.specs.Strokes.{strokes_of}
use Rattle.words.specs.Text.{word_of, spaced}
use Rattle.words.proofs.Counts.{strokes-append, strokes-le}
use Rattle.words.proofs.Words.{word-short}
use Rattle.search.specs.Solve.{first_list, second_list}
use Rattle.search.specs.declared.Found.TheVariants as found
use Rattle.search.specs.declared.Solution.{Solution}
use Rattle.solution.specs.declared.Printed.{Printed}
use Rattle.solution.specs.Text.{none_line, spent_line, found_text, answer_text, printed_as, solution_word, phase1_word, phase2_word, entries_word, turns_line, count_lines, solved_text}

-- a number of j + 1 digits in a line
line-le : (j : ℕ) (w : List ℕ) (m : ℕ) → m < 10 * 10 ^ j → length (line w m) ≤ length w + j + 2
line-le j w m h = omega (arith, line-length w (decimal m), digits_le j 20 m h)

-- a number below 1,000 in a line
pub refused-le : (n : ℕ) → n < 1000 → length (line refused_word n) ≤ 12
refused-le n h = line-le 2 refused_word n h

-- ---- the line of the turns

-- the words of a list
abbrev pub words : List ℕ → List ℕ
words ms = spaced (map word_of ms)

words_append : (one two : List ℕ) → words (one ++ two) ≡ words one ++ words two
unfolding spaced
words_append [] two = refl
words_append (m ∷ one) two = ap (λ (l : List ℕ). 32 ∷ (word_of m ++ l)) (words_append one two) ∙ ap (λ (l : List ℕ). 32 ∷ l) (sym (append_assoc (word_of m) (words one) (words two)))

words-le : (ms : List ℕ) → length (words ms) ≤ 3 * length ms
unfolding spaced
words-le [] = omega arith
words-le (m ∷ ms) = omega (arith, words-le ms, word-short m, length-append (word_of m) (words ms))

-- each list's words by themselves
pub turns-are : (one two : List ℕ) → turns_line one two ≡ solution_word ++ (words one ++ (words two ++ (10 ∷ [])))
unfolding turns_line
turns-are one two = ap (λ (l : List ℕ). solution_word ++ (l ++ (10 ∷ []))) (words_append one two) ∙ ap (λ (l : List ℕ). solution_word ++ l) (append_assoc (words one) (words two) (10 ∷ []))

pub turns-length : (one two : List ℕ) → length (turns_line one two) ≡ 9 + length (words one) + length (words two)
turns-length one two = omega (arith, ap length (turns-are one two), length-append (words one) (words two ++ (10 ∷ [])), length-append (words two) (10 ∷ []))

-- ---- the lines of the numbers

-- the five lines, with n moves in both lists and k strokes
abbrev pub lines_of : ℕ → ℕ → ℕ → ℕ → ℕ → List ℕ
lines_of a b n k count = line phase1_word a ++ (line phase2_word b ++ (line moves_word n ++ (line strokes_word k ++ line entries_word count)))

pub counts-are : (one two : List ℕ) (count : ℕ) → count_lines one two count ≡ lines_of (length one) (length two) (length one + length two) (strokes_of one + strokes_of two) count
unfolding count_lines
counts-are one two count = ap₂ (λ (n k : ℕ). lines_of (length one) (length two) n k count) (length-append one two) (strokes-append one two)

pub counts-length : (one two : List ℕ) (count : ℕ) → length (count_lines one two count) ≡ length (line phase1_word (length one)) + length (line phase2_word (length two)) + length (line moves_word (length one + length two)) + length (line strokes_word (strokes_of one + strokes_of two)) + length (line entries_word count)
counts-length one two count =
    let a = line phase1_word (length one) in
    let b = line phase2_word (length two) in
    let c = line moves_word (length one + length two) in
    let d = line strokes_word (strokes_of one + strokes_of two) in
    let e = line entries_word count in
    omega (arith, ap length (counts-are one two count), length-append a (b ++ (c ++ (d ++ e))), length-append b (c ++ (d ++ e)), length-append c (d ++ e), length-append d e)

-- all of it fits 256 bytes
pub solved-le : (one two : List ℕ) (count : ℕ) → length one ≤ 31 → length two ≤ 31 → count < 4294967296 → length (turns_line one two) + length (count_lines one two count) ≤ 255
solved-le one two count h k l =
    let a = line-le 1 phase1_word (length one) (omega (arith, h)) in
    let b = line-le 1 phase2_word (length two) (omega (arith, k)) in
    let c = line-le 1 moves_word (length one + length two) (omega (arith, h, k)) in
    let d = line-le 2 strokes_word (strokes_of one + strokes_of two) (omega (arith, h, k, strokes-le one, strokes-le two)) in
    let e = line-le 9 entries_word count (omega (arith, l)) in
    omega (arith, counts-length one two count, a, b, c, d, e, turns-length one two, words-le one, words-le two, h, k)

pub solved-length : (one two : List ℕ) (count : ℕ) → length (solved_text one two count) ≡ length (turns_line one two) + length (count_lines one two count)
solved-length one two count = length-append (turns_line one two) (count_lines one two count)

-- ---- what is printed

pub is-printed : (text t : List ℕ) (n : ℕ) → text ≡ over (replicate 256 0) 0 t → n ≡ length t → ◌≡◌ {A = Printed} (record { text = text; len = n }) (printed_as t)
is-printed text t n e f = rw (e, f)

module _ (s : Solution) where
  pub answer-solved : s.found ≡ found.Solved → answer_text s ≡ solved_text (first_list s) (second_list s) s.count
  unfolding answer_text
  answer-solved e = ap (found_text s) e

  pub answer-none : s.found ≡ found.Nothing → answer_text s ≡ none_line
  unfolding answer_text
  answer-none e = ap (found_text s) e

  pub answer-spent : s.found ≡ found.Spent → answer_text s ≡ spent_line
  unfolding answer_text
  answer-spent e = ap (found_text s) e

  pub answer-refused : (r : Refusal) → s.found ≡ found.Refused r → answer_text s ≡ line refused_word (number r)
  unfolding answer_text
  answer-refused r e = ap (found_text s) e
