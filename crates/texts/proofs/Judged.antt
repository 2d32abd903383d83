-- The judge's word: what it is for each score, and that a score is read back from it. Assumes nothing.
use Rattle.std.proofs.Common.{arith, ◌≡◌, refl, sym, ap, ◌∙◌, subst, IfOk, Bool, true, false, List, ℕ, ◌+◌, ◌*◌, ◌/◌, ◌%◌, ◌≤◌, Result, Ok, Err}
use Rattle.base.specs.Lists.{bit}
use Rattle.refusal.specs.declared.Refusal.{Refusal}
use Rattle.refusal.specs.Refusals.{number, code}
use Rattle.refusal.proofs.Laws.{number-small}
use Rattle.judgement.specs.Judge.{scored}
use Rattle.judgement.specs.declared.Score.{Score}
use Rattle.judgement.proofs.Refusals.{Few, few-moves}
use Rattle.texts.specs.Judge.{score_word, judge_word}

pub word-refused : (r : Refusal) → score_word (Err r) ≡ number r
unfolding score_word
word-refused r = refl

pub word-judged : (k : Score) → score_word (Ok k) ≡ 65536 * k.moves + 4294967296 * k.strokes + 256 * bit k.solved
unfolding score_word
word-judged k = refl

pub word-yes : (k : Score) → k.solved ≡ true → 65536 * k.moves + 4294967296 * k.strokes + 256 ≡ score_word (Ok k)
word-yes k y = ap (λ (b : Bool). 65536 * k.moves + 4294967296 * k.strokes + 256 * bit b) (sym y) ∙ sym (word-judged k)

pub word-no : (k : Score) → k.solved ≡ false → 65536 * k.moves + 4294967296 * k.strokes ≡ score_word (Ok k)
word-no k n = omega arith ∙ ap (λ (b : Bool). 65536 * k.moves + 4294967296 * k.strokes + 256 * bit b) (sym n) ∙ sym (word-judged k)

bit_le : (b : Bool) → bit b ≤ 1
bit_le true = omega arith
bit_le false = omega arith

-- what is told of moves and strokes
pub few-of : (s : List ℕ) (k : Score) → scored s ≡ Ok k → Few k
few-of s k e = subst (λ (q : Result Score Refusal). IfOk q Few) e (few-moves s)

-- ---- the header's macros read the word back

-- the low byte is the refusal's number
pub judged-number : (s : List ℕ) → judge_word s % 256 ≡ code (scored s)
judged-number s = go (scored s) (few-moves s)
  where
    go : (q : Result Score Refusal) → IfOk q Few → score_word q % 256 ≡ code q
    go (Ok k) few = omega (arith, word-judged k, few.0, bit_le k.solved)
    go (Err r) few = omega (arith, word-refused r, number-small r)

-- and where there is none the rest is the score
module _ (s : List ℕ) (k : Score) (e : scored s ≡ Ok k) where
  pub judged-solved : judge_word s / 256 % 256 ≡ bit k.solved
  judged-solved = rw e (omega (arith, word-judged k, (few-of s k e).0, bit_le k.solved))

  pub judged-moves : judge_word s / 65536 % 256 ≡ k.moves
  judged-moves = rw e (omega (arith, word-judged k, (few-of s k e).0, bit_le k.solved))

  pub judged-strokes : judge_word s / 4294967296 ≡ k.strokes
  judged-strokes = rw e (omega (arith, word-judged k, (few-of s k e).0, bit_le k.solved))
