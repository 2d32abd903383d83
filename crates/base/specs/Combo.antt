-- Which places hold one of the lowest pieces, as a number: e_combo of index.rs. Assumes nothing: these are definitions.
use Rattle.std.specs.Prelude.{List, [], ◌∷◌, ◌++◌, map, ℕ, zero, suc, ◌+◌, ◌-◌, ◌*◌, ◌/◌, leb, get_or}
use Rattle.base.specs.Lists.{pick}
use Rattle.base.specs.Perm.{less}

-- `calculate_combo`: n over k, by its loop; 0 where k is above n, since a factor is 0 then
unfoldable pub choose : ℕ → ℕ → ℕ
choose n zero = 1
choose n (suc k) = choose n k * (n - k) / suc k

-- the loop of `e_combo_to_index` over the places below i, the highest first, with k pieces below 4 still to come
unfoldable pub combo_number : ℕ → ℕ → List ℕ → ℕ
combo_number zero k xs = 0
combo_number (suc i) k xs = less (get_or xs i 0) 4 * choose i k + combo_number i (k - less (get_or xs i 0) 4) xs

-- the loop of `index_to_e_combo`: the places below i, where a place holds one of the k pieces left, the highest, or a 4
unfoldable pub combo_of : ℕ → ℕ → ℕ → List ℕ
combo_of zero k n = []
combo_of (suc i) k n = pick (leb (choose i k) n) (combo_of i (k - 1) (n - choose i k) ++ ((k - 1) ∷ [])) (combo_of i k n ++ (4 ∷ []))

-- which places hold a piece below 4
abbrev pub mask : List ℕ → List ℕ
mask xs = map (λ x. less x 4) xs
