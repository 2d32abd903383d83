-- Lines as bytes: the first line of a text, numbers in decimal, and a word with a number. LF is 10. Assumes nothing: these are definitions.
use Rattle.std.specs.Prelude.{List, [], ◌∷◌, ◌++◌, ℕ, zero, suc, ◌+◌, ◌/◌, ◌%◌, eqb, ltb, take, drop}
use Rattle.base.specs.Lists.{pick}

-- how many bytes stand before the first b; all of them, where there is none
unfoldable pub index_of : ℕ → List ℕ → ℕ
index_of b [] = 0
index_of b (x ∷ xs) = pick (eqb x b) 0 (suc (index_of b xs))

-- what stands before the first LF, and "the rest after the first LF"; all of it and nothing, where there is no LF
abbrev pub first_line : List ℕ → List ℕ
first_line s = take (index_of 10 s) s

abbrev pub after_line : List ℕ → List ℕ
after_line s = drop (index_of 10 s + 1) s

-- a number in decimal, in at most k digits, with no zeros in front
unfoldable pub decimal_in : ℕ → ℕ → List ℕ
decimal_in zero n = []
decimal_in (suc k) n = pick (ltb n 10) ((48 + n) ∷ []) (decimal_in k (n / 10) ++ ((48 + n % 10) ∷ []))

-- decided: a number has up to 20 digits, all that 64 bits hold
abbrev pub decimal : ℕ → List ℕ
decimal n = decimal_in 20 n

-- a word, a number, LF
abbrev pub line : List ℕ → ℕ → List ℕ
line w n = w ++ (decimal n ++ (10 ∷ []))

-- `refused `, `moves `, `strokes `
abbrev pub refused_word : List ℕ
refused_word = 114 ∷ 101 ∷ 102 ∷ 117 ∷ 115 ∷ 101 ∷ 100 ∷ 32 ∷ []

abbrev pub moves_word : List ℕ
moves_word = 109 ∷ 111 ∷ 118 ∷ 101 ∷ 115 ∷ 32 ∷ []

abbrev pub strokes_word : List ℕ
strokes_word = 115 ∷ 116 ∷ 114 ∷ 111 ∷ 107 ∷ 101 ∷ 115 ∷ 32 ∷ []
