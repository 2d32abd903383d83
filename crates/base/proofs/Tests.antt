-- What the tests say that a contract or a computed table makes. Assumes nothing.
use mathlib.Core.Path.{◌≡◌, refl, sym, ap, ap₂, subst, ◌∙◌}
use mathlib.Core.Bool.{Bool, true, false, ◌&&◌}
use mathlib.Core.Logic.{⊎_elim}
use mathlib.Core.List.{List, [], ◌∷◌, map}
use Prim.Native.Nat.{ℕ, zero, suc, ◌≤◌, ◌<◌}
use native.Mathlib.Nat.{not-suc-le-zero, le_of_suc-le-suc, eq-or-lt_of_le}
use native.Mathlib.Omega.{arith}
use lib.Dec.{eqb}
use lib.ListN.{length, get_or, take, drop}
use borrow.Author.Tests.{eqb-true, eq-eqb, ltb-true, lt-ltb}
use lib.Dec.{ltb}
use Rattle.std.specs.Cmp.Lexicographic.{pointwise}
use Rattle.std.specs.List.{list_all}
use Rattle.base.specs.Lists.{all_below, Under, in_range, same_list}
use Rattle.base.specs.Perm.{same, count, no_repeat}
use Rattle.base.proofs.Perm.{same-is, same-cut, total-map, total_ext}

pub and-true : (a b : Bool) → a && b ≡ true → (a ≡ true) × (b ≡ true)
and-true true b e = (refl, e)
and-true false b e = (e, let z : false ≡ true = e in cc)

pub both_true : {a b : Bool} → a ≡ true → b ≡ true → a && b ≡ true
both_true p q = rw (p, q)

pub left_false : {a : Bool} (b : Bool) → a ≡ false → a && b ≡ false
left_false b p = rw p

pub right-false : (a : Bool) {b : Bool} → b ≡ false → a && b ≡ false
right-false true p = p
right-false false p = refl

pub below_true : (p : ℕ → Bool) (n : ℕ) → all_below p n ≡ true → (m : ℕ) → m < n → p m ≡ true
below_true p zero e m h = absurd (not-suc-le-zero h)
below_true p (suc n) e m h =
    let a = and-true (p n) (all_below p n) e in
    ⊎_elim (λ (q : m ≡ n). subst (λ (k : ℕ). p k ≡ true) (sym q) a.0) (λ (q : m < n). below_true p n a.1 m q) (eq-or-lt_of_le (le_of_suc-le-suc h))

pub true_below : (p : ℕ → Bool) (n : ℕ) → ((m : ℕ) → m < n → p m ≡ true) → all_below p n ≡ true
true_below p zero h = refl
true_below p (suc n) h = both_true (h n (omega arith)) (true_below p n (λ m l. h m (omega arith)))

-- ---- the tests of lists

pub in_range-under : (n : ℕ) (xs : List ℕ) → in_range n xs ≡ true → Under n xs
in_range-under n [] e = tt
in_range-under n (x ∷ xs) e = let p = and-true _ _ e in (ltb-true x n p.0, in_range-under n xs p.1)

pub under-in_range : (n : ℕ) (xs : List ℕ) → Under n xs → in_range n xs ≡ true
under-in_range n [] u = refl
under-in_range n (x ∷ xs) u = ap (λ (b : Bool). b && in_range n xs) (lt-ltb x n u.0) ∙ under-in_range n xs u.1

-- what `all` answers of a slice where its closure tests for being below n
pub all_in_range : (n : ℕ) (xs : List ℕ) → list_all (λ x. ltb x n) xs ≡ in_range n xs
all_in_range n [] = refl
all_in_range n (x ∷ xs) = ap (λ (b : Bool). ltb x n && b) (all_in_range n xs)

-- what `==` answers of two slices
pub eq_same_list : (l k : List ℕ) → pointwise eqb l k ≡ same_list l k
unfolding same_list
eq_same_list [] [] = refl
eq_same_list [] (y ∷ k) = refl
eq_same_list (x ∷ l) [] = refl
eq_same_list (x ∷ l) (y ∷ k) = ap (λ (b : Bool). eqb x y && b) (eq_same_list l k)

pub no_repeat-once : (xs : List ℕ) → no_repeat xs ≡ true → (a : ℕ) → count a xs ≤ 1
no_repeat-once [] e a = omega arith
no_repeat-once (x ∷ xs) e a =
    let p = and-true _ _ e in
    let none : count x xs ≡ 0 = eqb-true _ _ p.0 in
    let ih = no_repeat-once xs p.1 a in
    ⊎_elim (λ u. omega (arith, ap (λ (k : ℕ). count k xs) u.0)) (λ u. omega arith) (same-cut a x)

pub once-no_repeat : (xs : List ℕ) → ((a : ℕ) → count a xs ≤ 1) → no_repeat xs ≡ true
once-no_repeat [] o = refl
once-no_repeat (x ∷ xs) o =
    ap (λ (b : Bool). b && no_repeat xs) (eq-eqb (count x xs) 0 (omega (arith, o x, same-is x x)))
    ∙ once-no_repeat xs (λ a. omega (arith, o a))

pub under_at : (n : ℕ) (xs : List ℕ) (i : ℕ) → Under n xs → i < length xs → get_or xs i 0 < n
under_at n [] i u h = absurd (not-suc-le-zero h)
under_at n (x ∷ xs) zero u h = u.0
under_at n (x ∷ xs) (suc i) u h = under_at n xs i u.1 (le_of_suc-le-suc h)

pub under-map : (m n : ℕ) (f : ℕ → ℕ) → ((x : ℕ) → x < m → f x < n) → (xs : List ℕ) → Under m xs → Under n (map f xs)
under-map m n f h [] u = tt
under-map m n f h (x ∷ xs) u = (h x u.0, under-map m n f h xs u.1)

pub under_more : {m n : ℕ} → m ≤ n → (xs : List ℕ) → Under m xs → Under n xs
under_more h [] u = tt
under_more h (x ∷ xs) u = (omega (arith, u.0), under_more h xs u.1)

pub under-take : (n k : ℕ) (xs : List ℕ) → Under n xs → Under n (take k xs)
under-take n zero xs u = tt
under-take n (suc k) [] u = tt
under-take n (suc k) (x ∷ xs) u = (u.0, under-take n k xs u.1)

pub under_drop : (n k : ℕ) (xs : List ℕ) → Under n xs → Under n (drop k xs)
under_drop n zero xs u = u
under_drop n (suc k) [] u = tt
under_drop n (suc k) (x ∷ xs) u = under_drop n k xs u.1

pub no_repeat-map : (f : ℕ → ℕ) → ((x y : ℕ) → same (f x) (f y) ≡ same x y) → (xs : List ℕ) → no_repeat (map f xs) ≡ no_repeat xs
no_repeat-map f m [] = refl
no_repeat-map f m (x ∷ xs) =
    ap₂ ◌&&◌ (ap (λ (n : ℕ). eqb n 0) (total-map (same (f x)) f xs ∙ total_ext (m x) xs)) (no_repeat-map f m xs)

pub same_list-is : (l k : List ℕ) → same_list l k ≡ true → l ≡ k
unfolding same_list
same_list-is [] [] e = refl
same_list-is [] (y ∷ k) e = let z : false ≡ true = e in cc
same_list-is (x ∷ l) [] e = let z : false ≡ true = e in cc
same_list-is (x ∷ l) (y ∷ k) e = let a = and-true (eqb x y) (same_list l k) e in ap₂ ◌∷◌ (eqb-true x y a.0) (same_list-is l k a.1)

pub same_list-self : (l : List ℕ) → same_list l l ≡ true
unfolding same_list
same_list-self [] = refl
same_list-self (x ∷ l) = both_true (eq-eqb x x refl) (same_list-self l)
