-- What is printed of an answer of the search. LF is 10. Assumes nothing: these are definitions.
use Rattle.std.specs.Prelude.{List, [], ◌∷◌, ◌++◌, map, ℕ, length, replicate}
use Rattle.lines.specs.Lines.{line, refused_word, moves_word, strokes_word}
use Rattle.refusal.specs.Refusals.{number}
use Rattle.words.specs.Answers.{over}
use Rattle.words.specs.Strokes.{strokes_of}
use Rattle.words.specs.Text.{word_of, spaced}
use Rattle.search.specs.Solve.{first_list, second_list}
use Rattle.search.specs.declared.Found.{Found}
use Rattle.search.specs.declared.Found.TheVariants as found
use Rattle.search.specs.declared.Solution.{Solution}
use Rattle.solution.specs.declared.Printed.{Printed}

-- `solution`; `phase1 `, `phase2 `, `entries `
abbrev pub solution_word : List ℕ
solution_word = 115 ∷ 111 ∷ 108 ∷ 117 ∷ 116 ∷ 105 ∷ 111 ∷ 110 ∷ []

abbrev pub phase1_word : List ℕ
phase1_word = 112 ∷ 104 ∷ 97 ∷ 115 ∷ 101 ∷ 49 ∷ 32 ∷ []

abbrev pub phase2_word : List ℕ
phase2_word = 112 ∷ 104 ∷ 97 ∷ 115 ∷ 101 ∷ 50 ∷ 32 ∷ []

abbrev pub entries_word : List ℕ
entries_word = 101 ∷ 110 ∷ 116 ∷ 114 ∷ 105 ∷ 101 ∷ 115 ∷ 32 ∷ []

-- decided: `solution`, the moves of both lists with a space before each, LF; `solution` alone for no moves
unfoldable pub turns_line : List ℕ → List ℕ → List ℕ
turns_line one two = solution_word ++ (spaced (map word_of (one ++ two)) ++ (10 ∷ []))

-- decided: the lines `phase1 N`, `phase2 N`, `moves N`, `strokes N`, `entries N`: the moves of each list, those of both and their strokes, "the entries made"
unfoldable pub count_lines : List ℕ → List ℕ → ℕ → List ℕ
count_lines one two count =
    line phase1_word (length one)
    ++ (line phase2_word (length two) ++ (line moves_word (length (one ++ two)) ++ (line strokes_word (strokes_of (one ++ two)) ++ line entries_word count)))

abbrev pub solved_text : List ℕ → List ℕ → ℕ → List ℕ
solved_text one two count = turns_line one two ++ count_lines one two count

-- `none`, `spent`, each with LF
abbrev pub none_line : List ℕ
none_line = 110 ∷ 111 ∷ 110 ∷ 101 ∷ 10 ∷ []

abbrev pub spent_line : List ℕ
spent_line = 115 ∷ 112 ∷ 101 ∷ 110 ∷ 116 ∷ 10 ∷ []

-- decided: solved, none, spent and a refusal each have a text of their own
abbrev pub found_text : Solution → Found → List ℕ
found_text s found.Solved = solved_text (first_list s) (second_list s) s.count
found_text s found.Nothing = none_line
found_text s found.Spent = spent_line
found_text s (found.Refused r) = line refused_word (number r)

unfoldable pub answer_text : Solution → List ℕ
answer_text s = found_text s s.found

-- a text in the first of 256 bytes, 0 after it, and its length
abbrev pub printed_as : List ℕ → Printed
printed_as t = record { text = over (replicate 256 0) 0 t; len = length t }
