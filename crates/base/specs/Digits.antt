-- Orientations as numbers, over any base and length: co and eo of index.rs. Assumes nothing: these are definitions.
use Rattle.std.specs.Prelude.{List, [], ◌∷◌, ◌++◌, ℕ, zero, suc, ◌+◌, ◌-◌, ◌*◌, ◌/◌, ◌%◌, ◌^◌, length}
use Rattle.base.specs.Lists.{total}

-- the places as digits in base k, the first the highest: the loop of `co_to_index` and `eo_to_index`
abbrev pub digits : ℕ → List ℕ → ℕ
digits k [] = 0
digits k (x ∷ xs) = x * k ^ length xs + digits k xs

-- the n digits of v. Not an abbrev: at a length that is a numeral it would be written out
unfoldable pub digits_of : ℕ → ℕ → ℕ → List ℕ
digits_of k zero v = []
digits_of k (suc n) v = v / k ^ n ∷ digits_of k n (v % k ^ n)

-- what brings the sum of xs to 0 modulo k
abbrev pub completing : ℕ → List ℕ → ℕ
completing k xs = (k - total (λ x. x) xs % k) % k

-- `fill_orientation_slice`: n digits, and a last place that brings the sum to 0 modulo k
abbrev pub orientation_of : ℕ → ℕ → ℕ → List ℕ
orientation_of k n v = digits_of k n v ++ (completing k (digits_of k n v) ∷ [])
