-- Moves in a fixed array of 31, and what a search hands back in one word. Assumes nothing: these are definitions.
use Rattle.std.specs.Prelude.{ℕ, ◌+◌, ◌-◌, ◌*◌, ◌≡◌, List, ◌++◌, length, replicate, take}
use Rattle.base.specs.Lists.{Under}
use Rattle.base.specs.Search.{Res, still, done}
use Rattle.phase2_steps.specs.Rules.{Ans, solved, nothing, spent, refused}

-- a list in an array of 31, "unused places are 0"
unfoldable pub padded : List ℕ → List ℕ
padded l = l ++ replicate (31 - length l) 0

-- the array holds n moves
pub record Holds (path : List ℕ) (n : ℕ) : Type 0 where
  pub size : length path ≡ 31
  pub rest : path ≡ padded (take n path)
  pub moves : Under 18 (take n path)

-- the list stands in the array, and its elements are moves
pub record Stored (l path : List ℕ) : Type 0 where
  pub is : path ≡ padded l
  pub moves : Under 18 l

-- what a search hands back, in one word: the budget left and, times 2^32, how it came out; f: the list whose moves are counted
unfoldable pub word_of : {L : Type 0} → (L → List ℕ) → Res (Ans L) ℕ → ℕ
word_of f (still s) = s
word_of f (done nothing s) = 4294967296 + s
word_of f (done spent s) = 8589934592 + s
word_of f (done refused s) = 12884901888 + s
word_of f (done (solved l) s) = (4 + length (f l)) * 4294967296 + s
