-- What is asked of the search, and the bytes that are printed, as a function of the bytes that were read and the two table blocks.
-- The lines are stickers, limit and budget; limit and budget may be missing. Assumes nothing: these are definitions.
use Rattle.std.specs.Prelude.{Bool, true, ◌&&◌, List, [], ◌∷◌, ℕ, ◌+◌, ◌-◌, ◌*◌, eqb, ltb, leb, length, Option, Some, None}
use Rattle.base.specs.Lists.{pick}
use Rattle.cubie.specs.declared.CubieCube.{CubieCube}
use Rattle.stickers.specs.Reader.{cube_read, strict_refusal}
use Rattle.lines.specs.Lines.{first_line, after_line, line, refused_word}
use Rattle.search.specs.Solve.{solve_of}
use Rattle.solution.specs.Text.{answer_text}

-- ---- a number

-- each byte is a digit 0-9
unfoldable pub all_digits : List ℕ → Bool
all_digits [] = true
all_digits (c ∷ s) = leb 48 c && (leb c 57 && all_digits s)

-- decided: a number is one to ten digits 0-9 and nothing else
unfoldable pub is_number : List ℕ → Bool
is_number s = ltb 0 (length s) && (leb (length s) 10 && all_digits s)

-- the value of the digits s behind digits of value a
unfoldable pub value_from : ℕ → List ℕ → ℕ
value_from a [] = a
value_from a (c ∷ s) = value_from (10 * a + (c - 48)) s

-- decided: an empty or missing line is the usual number; one that is no number is none
unfoldable pub amount_of : ℕ → List ℕ → Option ℕ
amount_of usual s = pick (eqb (length s) 0) (Some usual) (pick (is_number s) (Some (value_from 0 s)) None)

-- a text for a number up to a bound, and another for a greater one and for none
abbrev pub up_to : ℕ → Option ℕ → (ℕ → List ℕ) → List ℕ → List ℕ
up_to most (Some n) text otherwise = pick (leb n most) (text n) otherwise
up_to most None text otherwise = otherwise

-- ---- the three lines

-- `bad budget`, `bad input`, each with LF
abbrev pub bad_budget_line : List ℕ
bad_budget_line = 98 ∷ 97 ∷ 100 ∷ 32 ∷ 98 ∷ 117 ∷ 100 ∷ 103 ∷ 101 ∷ 116 ∷ 10 ∷ []

abbrev pub bad_input_line : List ℕ
bad_input_line = 98 ∷ 97 ∷ 100 ∷ 32 ∷ 105 ∷ 110 ∷ 112 ∷ 117 ∷ 116 ∷ 10 ∷ []

-- decided: the third line is the budget, 1,000,000,000 if empty or missing; above 32 bits, or no number, is a bad budget; then anything behind the third line is bad input
unfoldable pub budget_text : CubieCube → ℕ → List ℕ → List ℕ → List ℕ → List ℕ
budget_text cube limit t moves prunes =
    up_to 4294967295 (amount_of 1000000000 (first_line t))
    (λ budget. pick (eqb (length (after_line t)) 0) (answer_text (solve_of cube limit budget moves prunes)) bad_input_line)
    bad_budget_line

-- decided: the second line is the limit, 23 if empty or missing; "limit above 31", or no number, is 9
unfoldable pub limit_text : CubieCube → List ℕ → List ℕ → List ℕ → List ℕ
limit_text cube t moves prunes =
    up_to 31 (amount_of 23 (first_line t)) (λ limit. budget_text cube limit (after_line t) moves prunes) (line refused_word 9)

-- decided, as for the moves judged: the first line is read strictly, and its refusal comes first
unfoldable pub request_text : List ℕ → List ℕ → List ℕ → List ℕ
request_text s moves prunes =
    pick (eqb (strict_refusal (first_line s)) 0) (limit_text (cube_read (first_line s)) (after_line s) moves prunes) (line refused_word (strict_refusal (first_line s)))

-- "Input above 1,024 bytes is 10 before all else"
unfoldable pub solution_text : List ℕ → List ℕ → List ℕ → List ℕ
solution_text s moves prunes = pick (leb (length s) 1024) (request_text s moves prunes) (line refused_word 10)
