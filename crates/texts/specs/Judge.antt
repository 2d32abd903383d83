-- What a call of the judge returns, and leaves in the bytes and the count that are lent; and the same in one word, with nothing lent.
-- Assumes nothing: these are definitions.
use Rattle.std.specs.Prelude.{List, ℕ, ◌+◌, ◌*◌, eqb, length, Result, Ok, Err}
use Rattle.base.specs.Lists.{pick, bit}
use Rattle.refusal.specs.declared.Refusal.{Refusal}
use Rattle.refusal.specs.Refusals.{number}
use Rattle.judgement.specs.Judge.{printed, scored}
use Rattle.judgement.specs.declared.Score.{Score}

-- a room of another length than 64 is refused with 10; what is judged is not: its refusal is printed
unfoldable pub judge_number : List ℕ → ℕ
judge_number room = pick (eqb (length room) 64) 0 10

unfoldable pub judge_room : List ℕ → List ℕ → List ℕ
judge_room input room = pick (eqb (length room) 64) (printed input).text room

unfoldable pub judge_count : List ℕ → List ℕ → ℕ → ℕ
judge_count input room before = pick (eqb (length room) 64) (printed input).len before

-- the refusal's number in the low byte; where it is 0, solved in bits 8 to 15, the moves in bits 16 to 23, the strokes from bit 32 on
unfoldable pub score_word : Result Score Refusal → ℕ
score_word (Ok k) = 65536 * k.moves + 4294967296 * k.strokes + 256 * bit k.solved
score_word (Err r) = number r

-- "whether the moves solve the cube read", or the refusal
abbrev pub judge_word : List ℕ → ℕ
judge_word input = score_word (scored input)
