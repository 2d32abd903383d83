-- The unfolded cube: the stickers as they were read, U above F and D below it, L F R B side by side. Assumes nothing: these are definitions.
use Rattle.std.specs.Prelude.{List, [], ◌∷◌, ◌++◌, ℕ, ◌+◌, ◌*◌, eqb, leb, length, get_or, replicate}
use Rattle.base.specs.Lists.{pick}
use Rattle.stickers.specs.Reader.{all_colors}
use Rattle.lines.specs.Lines.{first_line, line, refused_word}

-- three stickers from `at` on, a space between
abbrev pub cells : List ℕ → ℕ → List ℕ
cells s at = get_or s at 0 ∷ 32 ∷ get_or s (at + 1) 0 ∷ 32 ∷ get_or s (at + 2) 0 ∷ []

-- decided: a row of U or D, under seven spaces
abbrev pub one_face : List ℕ → ℕ → List ℕ
one_face s at = replicate 7 32 ++ (cells s at ++ (10 ∷ []))

-- decided: row r of L, F, R and B, two spaces between. The string holds the faces U R F D L B, nine stickers each
abbrev pub four_faces : List ℕ → ℕ → List ℕ
four_faces s r =
    cells s (36 + 3 * r) ++ (32 ∷ 32 ∷ (cells s (18 + 3 * r) ++ (32 ∷ 32 ∷ (cells s (9 + 3 * r) ++ (32 ∷ 32 ∷ (cells s (45 + 3 * r) ++ (10 ∷ [])))))))

unfoldable pub drawing : List ℕ → List ℕ
drawing s =
    one_face s 0
    ++ (one_face s 3
    ++ (one_face s 6
    ++ (four_faces s 0 ++ (four_faces s 1 ++ (four_faces s 2 ++ (one_face s 27 ++ (one_face s 30 ++ one_face s 33)))))))

-- decided: 1 and 2 as the readers', and else the drawing, also of stickers that the strict reader refuses
unfoldable pub drawn_text : List ℕ → List ℕ
drawn_text s = pick (eqb (length s) 54) (pick (all_colors s) (drawing s) (line refused_word 2)) (line refused_word 1)

-- "Input above 1,024 bytes is 10 before all else"
unfoldable pub net_text : List ℕ → List ℕ
net_text s = pick (leb (length s) 1024) (drawn_text (first_line s)) (line refused_word 10)
