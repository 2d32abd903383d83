-- The number of a permutation and the permutation of a number, over lists of any length.
-- `number` is `slice_to_index` of index.rs; `perm_of` is `fill_perm_slice` on a slice of zeros.
-- Assumes nothing.
use Rattle.std.specs.Prelude.{◌≡◌, Bool, true, ◌&&◌, List, [], ◌∷◌, map, ℕ, zero, suc, ◌+◌, ◌*◌, ◌/◌, ◌%◌, ◌≤◌, ltb, leb, eqb, length}
use Rattle.base.specs.Lists.{bit, total, Under}

-- 1 where x is below a, else 0
unfoldable pub less : ℕ → ℕ → ℕ
less x a = bit (ltb x a)

-- 1 where x is a, else 0
unfoldable pub same : ℕ → ℕ → ℕ
same a x = bit (eqb a x)

-- how many of xs are below a, and how many are a
abbrev pub below : ℕ → List ℕ → ℕ
below a xs = total (λ x. less x a) xs

abbrev pub count : ℕ → List ℕ → ℕ
count a xs = total (same a) xs

abbrev pub fact : ℕ → ℕ
fact zero = 1
fact (suc n) = suc n * fact n

-- for each place, how many later ones are smaller, in the factorial base
abbrev pub number : List ℕ → ℕ
number [] = 0
number (x ∷ xs) = below x xs * fact (length xs) + number xs

-- one more where x is d or above: makes room for d
unfoldable pub bump : ℕ → ℕ → ℕ
bump d x = x + bit (leb d x)

-- the first digit, and then the permutation of the others, which makes room for it. Not an abbrev: at a length that is a numeral it would be written out
unfoldable pub perm_of : ℕ → ℕ → List ℕ
perm_of zero k = []
perm_of (suc n) k = k / fact n ∷ map (bump (k / fact n)) (perm_of n (k % fact n))

-- xs has each of 0 .. n - 1 exactly once
pub record Perm (n : ℕ) (xs : List ℕ) : Type 0 where
  pub size : length xs ≡ n
  pub small : Under n xs
  pub once : (a : ℕ) → count a xs ≤ 1

-- no piece stands at a later place too
abbrev pub no_repeat : List ℕ → Bool
no_repeat [] = true
no_repeat (x ∷ xs) = eqb (count x xs) 0 && no_repeat xs
