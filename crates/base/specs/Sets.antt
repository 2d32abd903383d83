-- Sets of numbers below 32 as the bits of a word: j is in the set exactly if bit j is set. Assumes nothing: these are definitions.
use Rattle.std.specs.Prelude.{ℕ, zero, suc, ◌/◌, ◌%◌, Bool, List, [], ◌∷◌}
use Rattle.base.specs.Lists.{pick}

-- j before the others where its bit is 1
abbrev pub with_bit : ℕ → ℕ → List ℕ → List ℕ
with_bit zero j l = l
with_bit (suc b) j l = j ∷ l

-- the elements by k bits, the lowest of which stands for j
unfoldable pub bits_from : ℕ → ℕ → ℕ → List ℕ
bits_from zero j m = []
bits_from (suc k) j m = with_bit (m % 2) j (bits_from k (suc j) (m / 2))

-- the elements of a set of columns, in order: the lowest comes first
unfoldable pub columns_of : ℕ → List ℕ
columns_of m = bits_from 32 0 m

-- those that pass the test, in order
unfoldable pub keep : (ℕ → Bool) → List ℕ → List ℕ
keep p [] = []
keep p (j ∷ l) = pick (p j) (j ∷ keep p l) (keep p l)
