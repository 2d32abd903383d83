-- The lines of the text, one behind the other. Assumes nothing.
use Rattle.std.proofs.Common.{arith, ◌≡◌, IfOk, Bool, true, false, List, ◌++◌, ℕ, ◌≤◌, ◌<◌, length, replicate, length-append, Result, Ok, Err}
use Rattle.refusal.specs.declared.Refusal.{Refusal}
use Rattle.refusal.specs.Refusals.{number}
use Rattle.refusal.proofs.Laws.{number-small}
use Rattle.words.proofs.Over.{over-length}
use Rattle.lines.specs.Lines.{decimal, line, refused_word, moves_word, strokes_word}
use Rattle.lines.proofs.Written.{digits_le, line-length}
use Rattle.judgement.specs.Judge.{Short, solved_line, score_text, scored, printed}
use Rattle.judgement.specs.declared.Score.{Score}
use Rattle.judgement.proofs.Refusals.{short-score}

pub decimal-le : (n : ℕ) → n < 1000 → length (decimal n) ≤ 3
decimal-le n h = digits_le 2 20 n h

pub solved-le : (b : Bool) → length (solved_line b) ≤ 11
unfolding solved_line
solved-le true = omega arith
solved-le false = omega arith

pub refused-le : (r : Refusal) → length (decimal (number r)) ≤ 3
refused-le r = decimal-le (number r) (omega (arith, number-small r))

-- the text of a score, or of a refusal, fits its room
pub score-le : (q : Result Score Refusal) → IfOk q Short → length (score_text q) ≤ 33
unfolding score_text
score-le (Ok k) short =
    let first = line moves_word k.moves in
    let second = line strokes_word k.strokes in
    let third = solved_line k.solved in
    omega (arith, length-append first (second ++ third), length-append second third, line-length moves_word (decimal k.moves), line-length strokes_word (decimal k.strokes), decimal-le k.moves short.moves, decimal-le k.strokes short.strokes, solved-le k.solved)
score-le (Err r) _ = omega (arith, line-length refused_word (decimal (number r)), refused-le r)

pub printed-sizes : (s : List ℕ) → (length (printed s).text ≡ 64) × ((printed s).len ≤ 33)
printed-sizes s = let h = score-le (scored s) (short-score s) in (over-length (replicate 64 0) 0 (score_text (scored s)) (omega (arith, h)), h)
