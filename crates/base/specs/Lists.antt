-- Tests and statements over lists and over the numbers below n. Assumes nothing: these are definitions.
use Rattle.std.specs.Prelude.{◌≡◌, Bool, true, false, ◌&&◌, ◌||◌, List, [], ◌∷◌, ℕ, zero, suc, ◌+◌, ◌<◌, ltb, eqb, length}

-- the first where the test holds, else the second
abbrev pub pick : {A : Type 0} → Bool → A → A → A
pick true a b = a
pick false a b = b

abbrev pub bit : Bool → ℕ
bit true = 1
bit false = 0

-- a test of each number below n, computed once for all of them
abbrev pub all_below : (ℕ → Bool) → ℕ → Bool
all_below p zero = true
all_below p (suc n) = p n && all_below p n

-- whether some number below n meets a test
abbrev pub some_below : (ℕ → Bool) → ℕ → Bool
some_below p zero = false
some_below p (suc n) = p n || some_below p n

-- the lowest of the k numbers from m on at which a test fails, or m + k where it holds at all of them
unfoldable pub first_false : (ℕ → Bool) → ℕ → ℕ → ℕ
first_false p m zero = m
first_false p m (suc k) = pick (p m) (first_false p (suc m) k) m

-- P of each element
abbrev pub Each : {A : Type 0} → (A → Type 0) → List A → Type 0
Each P [] = Unit {0}
Each P (x ∷ xs) = P x × Each P xs

-- each is below n
abbrev pub Under : ℕ → List ℕ → Type 0
Under n xs = Each (λ x. x < n) xs

-- n numbers below k
pub record Sized (n k : ℕ) (xs : List ℕ) : Type 0 where
  pub size : length xs ≡ n
  pub small : Under k xs

-- the same as a test: each is below n
abbrev pub in_range : ℕ → List ℕ → Bool
in_range n [] = true
in_range n (x ∷ xs) = ltb x n && in_range n xs

-- k numbers, from m on
unfoldable pub range : ℕ → ℕ → List ℕ
range m zero = []
range m (suc k) = m ∷ range (suc m) k

-- the two have the same length and the same elements
unfoldable pub same_list : List ℕ → List ℕ → Bool
same_list [] [] = true
same_list [] (y ∷ ys) = false
same_list (x ∷ xs) [] = false
same_list (x ∷ xs) (y ∷ ys) = eqb x y && same_list xs ys

-- the sum of g over the elements
abbrev pub total : (ℕ → ℕ) → List ℕ → ℕ
total g [] = 0
total g (x ∷ xs) = g x + total g xs

-- f taken n times
abbrev pub times : {A : Type 0} → ℕ → (A → A) → A → A
times zero f x = x
times (suc n) f x = f (times n f x)
