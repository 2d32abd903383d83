-- What the public functions answer, and what the lent slice holds after them. Assumes nothing: these are definitions.
use Rattle.std.specs.Prelude.{List, ℕ, leb, eqb, length, Result}
use Rattle.std.proofs.Math.Seq.{paste}
use Rattle.base.specs.Lists.{pick, in_range}
use Rattle.refusal.specs.declared.Refusal.{Refusal}
use Rattle.refusal.specs.Refusals.{answered}
use Rattle.moves.specs.Moves.{move_refusal, moves_refusal}
use Rattle.words.specs.Text.{number_of, parse}

-- out in the places of room from `at` on; the other places are unchanged
abbrev pub over : List ℕ → ℕ → List ℕ → List ℕ
over room at out = paste room at out (length out)

-- "7 before 10 for text": 7 where a number of ms is above 17, 10 where out, which is to be written, is "longer than the lent room"; 0 is no refusal
unfoldable pub refusal : List ℕ → List ℕ → List ℕ → ℕ
refusal ms out room = pick (in_range 18 ms) (pick (leb (length out) (length room)) 0 10) 7

-- the lent room after it: "No refusal writes to lent memory"; "Places after the list are unchanged"
unfoldable pub room_after : ℕ → List ℕ → List ℕ → List ℕ
room_after n out room = pick (eqb n 0) (over room 0 out) room

-- ---- the public functions, each by its name in the Rust

-- `Move::from_str`
abbrev pub parsed_move : List ℕ → Result ℕ Refusal
parsed_move word = answered (move_refusal (number_of word)) (number_of word)

-- how many moves there are; "text that isn't a move list" is 7
unfoldable pub moves_counted : List ℕ → Result ℕ Refusal
moves_counted ms = answered (moves_refusal ms) (length ms)

-- `scramble_from_str`: a count of moves or a refusal, and the lent room after it
abbrev pub parsed_text : List ℕ → List ℕ → Result ℕ Refusal
parsed_text text room = answered (refusal (parse text) (parse text) room) (length (parse text))

abbrev pub parsed_room : List ℕ → List ℕ → List ℕ
parsed_room text room = room_after (refusal (parse text) (parse text) room) (parse text) room

-- `Display` of a move, where out is its word, and the text of a list, where out is its text
abbrev pub written_text : List ℕ → List ℕ → List ℕ → Result ℕ Refusal
written_text ms out room = answered (refusal ms out room) (length out)

abbrev pub written_room : List ℕ → List ℕ → List ℕ → List ℕ
written_room ms out room = room_after (refusal ms out room) out room
