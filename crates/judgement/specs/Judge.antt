-- Do these moves solve this cube? The bytes that are printed, as a function of the bytes that were read. Assumes nothing: these are definitions.
use Rattle.std.specs.Prelude.{Bool, List, [], ◌∷◌, ◌++◌, ℕ, ◌-◌, ◌<◌, eqb, leb, length, get_or, take, replicate, Result, Ok, Err}
use Rattle.base.specs.Lists.{pick, in_range}
use Rattle.refusal.specs.declared.Refusal.{Refusal}
use Rattle.refusal.specs.Refusals.{number, named, answered}
use Rattle.cubie.specs.Cube.{apply_moves, is_home}
use Rattle.cubie.specs.declared.CubieCube.{CubieCube}
use Rattle.stickers.specs.Reader.{cube_read, strict_refusal}
use Rattle.lines.specs.Lines.{first_line, after_line, line, refused_word, moves_word, strokes_word}
use Rattle.words.specs.Answers.{over}
use Rattle.words.specs.Strokes.{strokes_of}
use Rattle.words.specs.Text.{parse}
use Rattle.judgement.specs.declared.Printed.{Printed}
use Rattle.judgement.specs.declared.Score.{Score}

-- ---- what is read

-- "one closing LF dropped"
unfoldable pub closed : List ℕ → List ℕ
closed t = pick (eqb (get_or t (length t - 1) 0) 10) (take (length t - 1) t) t

-- "the rest after the first LF is the move text; no LF means no moves"
abbrev pub move_line : List ℕ → List ℕ
move_line s = closed (after_line s)

-- ---- the score

-- "whether the moves solve the cube read"
abbrev pub score_of : CubieCube → List ℕ → Score
score_of c ms = record { moves = length ms; strokes = strokes_of ms; solved = is_home (apply_moves c ms) }

-- text that isn't a move list is 7; "a list above 255 moves is 10"
unfoldable pub text_refusal : List ℕ → ℕ
text_refusal t = pick (in_range 18 (parse t)) (pick (leb (length (parse t)) 255) 0 10) 7

unfoldable pub score_moves : CubieCube → List ℕ → Result Score Refusal
score_moves c t = answered (text_refusal t) (score_of c (parse t))

-- "The stickers' refusal comes first"
unfoldable pub score_lines : List ℕ → List ℕ → Result Score Refusal
score_lines stickers t = pick (eqb (strict_refusal stickers) 0) (score_moves (cube_read stickers) t) (Err (named (strict_refusal stickers)))

-- "standard input holds a sticker line, then a move line"; "Input above 1,024 bytes is 10 before all else"
unfoldable pub scored : List ℕ → Result Score Refusal
scored s = pick (leb (length s) 1024) (score_lines (first_line s) (move_line s)) (Err (named 10))

-- no number of the score has more than three digits
pub record Short (k : Score) : Type 0 where
  pub moves : k.moves < 1000
  pub strokes : k.strokes < 1000

-- ---- what is printed

-- `solved yes` or `solved no`, LF
unfoldable pub solved_line : Bool → List ℕ
solved_line b = pick b (115 ∷ 111 ∷ 108 ∷ 118 ∷ 101 ∷ 100 ∷ 32 ∷ 121 ∷ 101 ∷ 115 ∷ 10 ∷ []) (115 ∷ 111 ∷ 108 ∷ 118 ∷ 101 ∷ 100 ∷ 32 ∷ 110 ∷ 111 ∷ 10 ∷ [])

-- "`moves N`, `strokes N`, `solved yes` or `solved no`, or only `refused N`"
unfoldable pub score_text : Result Score Refusal → List ℕ
score_text (Ok k) = line moves_word k.moves ++ (line strokes_word k.strokes ++ solved_line k.solved)
score_text (Err r) = line refused_word (number r)

-- a text in the first of 64 bytes, 0 after it, and its length
abbrev pub printed_as : List ℕ → Printed
printed_as t = record { text = over (replicate 64 0) 0 t; len = length t }

abbrev pub printed : List ℕ → Printed
printed s = printed_as (score_text (scored s))
