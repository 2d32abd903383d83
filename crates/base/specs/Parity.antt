-- The parity of a permutation: the swaps of the selection loop of `count_corner_perm` and `count_edge_perm`. Assumes nothing: these are definitions.
use Rattle.std.specs.Prelude.{◌≡◌, List, [], ◌∷◌, ℕ, zero, suc, ◌+◌, ◌-◌, min, eqb, length, get_or, drop}
use Rattle.base.specs.Lists.{pick}
use Rattle.base.specs.Perm.{same, count}

-- the first place of xs that holds i gets x
unfoldable pub put : ℕ → ℕ → List ℕ → List ℕ
put i x [] = []
put i x (y ∷ ys) = pick (eqb i y) (x ∷ ys) (y ∷ put i x ys)

-- The loop over n places from i on, where xs is what stands there: a place that does not hold its number i is swapped with the first later place that does.
unfoldable pub swaps_from : ℕ → ℕ → List ℕ → ℕ
swaps_from zero i xs = 0
swaps_from (suc n) i [] = 0
swaps_from (suc n) i (x ∷ ys) = min (1 - same i x) (count i ys) + swaps_from n (suc i) (put i x ys)

abbrev pub swaps : List ℕ → ℕ
swaps xs = swaps_from (length xs) 0 xs

-- What `settle` does at place i of p: r swaps, and t is what p has become. The places before i and at i are not looked at again.
pub record Settled (i : ℕ) (p t : List ℕ) (r : ℕ) : Type 0 where
  pub swapped : r ≡ min (1 - same i (get_or p i 0)) (count i (drop (i + 1) p))
  pub left : drop (i + 1) t ≡ put i (get_or p i 0) (drop (i + 1) p)
