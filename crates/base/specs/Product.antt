-- The product of two cubes of cubie.rs, one list at a time. Assumes nothing: these are definitions.
use Rattle.std.specs.Prelude.{List, [], ◌∷◌, map, ℕ, ◌+◌, ◌%◌, get_or}

-- at place i stands p[q[i]]
abbrev pub compose : List ℕ → List ℕ → List ℕ
compose p q = map (λ i. get_or p i 0) q

-- the twist at place i is t[q[i]] + s[i], modulo k
unfoldable pub twisted : ℕ → List ℕ → List ℕ → List ℕ → List ℕ
twisted k t [] s = []
twisted k t (i ∷ q) [] = []
twisted k t (i ∷ q) (x ∷ s) = (get_or t i 0 + x) % k ∷ twisted k t q s
