-- Moves as text: `Display` and `FromStr` of moves.rs, and lists of moves with the paper's rule on spaces.
-- The bytes are those of ASCII. Assumes nothing: these are definitions.
use Rattle.std.specs.Prelude.{Bool, List, [], ◌∷◌, ◌++◌, map, ℕ, suc, ◌/◌, ◌%◌, eqb, get_or}
use Rattle.base.specs.Lists.{pick, range, same_list}

-- the letters of the six layers: U D R L F B
abbrev pub letters : List ℕ
letters = 85 ∷ 68 ∷ 82 ∷ 76 ∷ 70 ∷ 66 ∷ []

-- what stands after the letter: nothing, `2` or an apostrophe ("U3 is written U'")
abbrev pub marks : List (List ℕ)
marks = [] ∷ (50 ∷ []) ∷ (39 ∷ []) ∷ []

-- `Display` of a move
unfoldable pub word_of : ℕ → List ℕ
word_of m = get_or letters (m / 3) 0 ∷ get_or marks (m % 3) []

-- the place of the first that passes the test; how many there are, if none does
unfoldable pub place : {A : Type 0} → (A → Bool) → List A → ℕ
place p [] = 0
place p (x ∷ xs) = pick (p x) 0 (suc (place p xs))

-- `FromStr` of a move: the number of the move, 0 to 17, whose word it is; 18 if it is no move's
unfoldable pub number_of : List ℕ → ℕ
number_of w = place (same_list w) (map word_of (range 0 18))

-- ---- from a list to its text

-- each word with a space before it
unfoldable pub spaced : List (List ℕ) → List ℕ
spaced [] = []
spaced (w ∷ ws) = 32 ∷ (w ++ spaced ws)

-- "one space between"
unfoldable pub join : List (List ℕ) → List ℕ
join [] = []
join (w ∷ ws) = w ++ spaced ws

-- "a list is its moves with one space between"
abbrev pub text_of : List ℕ → List ℕ
text_of ms = join (map word_of ms)

-- ---- from a text to its list

-- c put onto the front of the first word
unfoldable pub onto : ℕ → List (List ℕ) → List (List ℕ)
onto c [] = (c ∷ []) ∷ []
onto c (w ∷ ws) = (c ∷ w) ∷ ws

-- cut at every space: a space at an end, or a second one, leaves an empty word
unfoldable pub split : List ℕ → List (List ℕ)
split [] = [] ∷ []
split (c ∷ t) = pick (eqb 32 c) ([] ∷ split t) (onto c (split t))

-- "Empty text is the empty list"
unfoldable pub words_of : List ℕ → List (List ℕ)
words_of [] = []
words_of (c ∷ t) = split (c ∷ t)

-- the number of each word: a text is a move list if each of them is below 18
abbrev pub parse : List ℕ → List ℕ
parse t = map number_of (words_of t)
