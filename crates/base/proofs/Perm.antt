-- Laws of `number` and `perm_of`, proved once over the length.
-- Assumes nothing.
use mathlib.Core.Path.{◌≡◌, refl, sym, ap, ap₂, ◌∙◌, subst, fun_ext}
use mathlib.Core.Bool.{Bool, true, false}
use mathlib.Core.Logic.{◌⊎◌, inl, inr, ⊎_elim}
use mathlib.Core.List.{List, [], ◌∷◌, map}
use Prim.Native.Nat.{ℕ, zero, suc, ◌+◌, ◌-◌, ◌*◌, ◌/◌, ◌%◌, ◌≤◌, ◌<◌, min, suc-le-suc}
use native.Mathlib.Nat.{le_refl, suc_inj, suc-ne-zero, add-zero, zero-add, suc-add, zero-lt-suc, mul-pos, div-lt_iff_lt-mul, mod-lt, div-add-mod'}
use native.Mathlib.Numerals.{add-one}
use native.Mathlib.Omega.{arith}
use lib.Dec.{ltb, leb, eqb}
use lib.Arith.{digits_lt, digits_div, digits_mod}
use lib.ListN.{length, length-map}
use borrow.Author.Tests.{ltb-true, ltb-false, leb-true, leb-false, eqb-true, eqb-false}
use Rattle.base.specs.Lists.{bit, total, Under}
use Rattle.base.specs.Perm.{less, same, below, count, fact, number, bump, perm_of, Perm}

-- ---- the three tests as arithmetic that omega reads

pub less-is : (x a : ℕ) → less x a ≡ min 1 (a - x)
unfolding less
less-is x a = go (ltb x a) refl
  where
    go : (b : Bool) → ltb x a ≡ b → bit b ≡ min 1 (a - x)
    go true e = let h : x < a = ltb-true x a e in omega arith
    go false e = let h : a ≤ x = ltb-false x a e in omega arith

pub same-is : (a x : ℕ) → same a x ≡ 1 - ((a - x) + (x - a))
unfolding same
same-is a x = go (eqb a x) refl
  where
    go : (b : Bool) → eqb a x ≡ b → bit b ≡ 1 - ((a - x) + (x - a))
    go true e = let h : a ≡ x = eqb-true a x e in omega arith
    go false e = omega (arith, eqb-false a x e)

pub bump-is : (d x : ℕ) → bump d x ≡ x + min 1 (suc x - d)
unfolding bump
bump-is d x = go (leb d x) refl
  where
    go : (b : Bool) → leb d x ≡ b → x + bit b ≡ x + min 1 (suc x - d)
    go true e = let h : d ≤ x = leb-true d x e in omega arith
    go false e = let h : x < d = leb-false d x e in omega arith

-- and as cases, for where omega would have to split too often (its bound is 6)
pub less-cut : (x a : ℕ) → ((x < a) × (less x a ≡ 1)) ⊎ ((a ≤ x) × (less x a ≡ 0))
unfolding less
less-cut x a = go (ltb x a) refl
  where
    go : (b : Bool) → ltb x a ≡ b → ((x < a) × (bit b ≡ 1)) ⊎ ((a ≤ x) × (bit b ≡ 0))
    go true e = inl (ltb-true x a e, refl)
    go false e = inr (ltb-false x a e, refl)

pub same-cut : (a x : ℕ) → ((a ≡ x) × (same a x ≡ 1)) ⊎ (same a x ≡ 0)
unfolding same
same-cut a x = go (eqb a x) refl
  where
    go : (b : Bool) → eqb a x ≡ b → ((a ≡ x) × (bit b ≡ 1)) ⊎ (bit b ≡ 0)
    go true e = inl (eqb-true a x e, refl)
    go false e = inr refl

pub bump-cut : (d x : ℕ) → ((x < d) × (bump d x ≡ x)) ⊎ ((d ≤ x) × (bump d x ≡ suc x))
unfolding bump
bump-cut d x = go (leb d x) refl
  where
    go : (b : Bool) → leb d x ≡ b → ((x < d) × (x + bit b ≡ x)) ⊎ ((d ≤ x) × (x + bit b ≡ suc x))
    go true e = inr (leb-true d x e, add-one x)
    go false e = inl (leb-false d x e, add-zero x)

-- ---- sums over a list

pub total-map : (g f : ℕ → ℕ) (xs : List ℕ) → total g (map f xs) ≡ total (λ x. g (f x)) xs
total-map g f [] = refl
total-map g f (x ∷ xs) = ap (λ (k : ℕ). g (f x) + k) (total-map g f xs)

pub total_ext : {g h : ℕ → ℕ} → ((x : ℕ) → g x ≡ h x) → (xs : List ℕ) → total g xs ≡ total h xs
total_ext e xs = ap (λ (k : ℕ → ℕ). total k xs) (fun_ext e)

pub below_suc : (a : ℕ) (xs : List ℕ) → below (suc a) xs ≡ below a xs + count a xs
below_suc a [] = refl
below_suc a (x ∷ xs) = omega (arith, below_suc a xs, less-is x (suc a), less-is x a, same-is a x)

pub below-le : (a : ℕ) (xs : List ℕ) → below a xs ≤ length xs
below-le a [] = le_refl 0
below-le a (x ∷ xs) = omega (arith, below-le a xs, less-is x a)

below-mono : {a b : ℕ} → a ≤ b → (xs : List ℕ) → below a xs ≤ below b xs
below-mono h [] = le_refl 0
below-mono {a} {b} h (x ∷ xs) = omega (arith, below-mono h xs, less-is x a, less-is x b)

below-zero : (xs : List ℕ) → below 0 xs ≡ 0
below-zero [] = refl
below-zero (x ∷ xs) = omega (arith, below-zero xs, less-is x 0)

-- ---- (1) a number of a list of n is below n!

pub fact-pos : (n : ℕ) → 0 < fact n
fact-pos zero = zero-lt-suc 0
fact-pos (suc n) = mul-pos (zero-lt-suc n) (fact-pos n)

pub number_lt : (xs : List ℕ) → number xs < fact (length xs)
number_lt [] = zero-lt-suc 0
number_lt (x ∷ xs) = digits_lt (suc-le-suc (below-le x xs)) (number_lt xs)

-- ---- (5) the number depends on the order of the elements alone

-- a map that keeps the order
abbrev pub Mono : (ℕ → ℕ) → Type 0
Mono f = (x y : ℕ) → less (f x) (f y) ≡ less x y

below-map : (f : ℕ → ℕ) → Mono f → (a : ℕ) (xs : List ℕ) → below (f a) (map f xs) ≡ below a xs
below-map f m a xs = total-map (λ x. less x (f a)) f xs ∙ total_ext (λ x. m x a) xs

pub number-map : (f : ℕ → ℕ) → Mono f → (xs : List ℕ) → number (map f xs) ≡ number xs
number-map f m [] = refl
number-map f m (x ∷ xs) = cc (below-map f m x xs, length-map xs f, number-map f m xs)

pub bump-mono : (d : ℕ) → Mono (bump d)
bump-mono d x y =
    let l = less-is (bump d x) (bump d y) in
    let r = less-is x y in
    ⊎_elim (λ p. ⊎_elim (λ q. omega arith) (λ q. omega arith) (bump-cut d y)) (λ p. ⊎_elim (λ q. omega arith) (λ q. omega arith) (bump-cut d y))
    (bump-cut d x)

pub add-mono : (c : ℕ) → Mono (λ x. c + x)
add-mono c x y = omega (arith, less-is (c + x) (c + y), less-is x y)

-- ---- a full run: of the numbers b .. b + n - 1 each one once. At each d it has as many below d as the run has

abbrev pub Fills : ℕ → ℕ → List ℕ → Type 0
Fills b n xs = (d : ℕ) → below d xs ≡ min n (d - b)

under_of : (n : ℕ) (xs : List ℕ) → below n xs ≡ length xs → Under n xs
under_of n [] e = tt
under_of n (x ∷ xs) e = (omega (arith, below-le n xs, less-is x n), under_of n xs (omega (arith, below-le n xs, less-is x n)))

of-under : (n : ℕ) (xs : List ℕ) → Under n xs → below n xs ≡ length xs
of-under n [] u = refl
of-under n (x ∷ xs) u = omega (arith, of-under n xs u.1, less-is x n, u.0)

pub fills-perm : {n : ℕ} {xs : List ℕ} → length xs ≡ n → Fills 0 n xs → Perm n xs
fills-perm {n} {xs} l f = record {
  size = l;
  small = under_of n xs (omega (arith, f n));
  once = λ a. omega (arith, below_suc a xs, f a, f (suc a));
}

-- the pigeonhole principle: n different numbers below n are all of them
below_self : (xs : List ℕ) → ((a : ℕ) → count a xs ≤ 1) → (d : ℕ) → below d xs ≤ d
below_self xs o zero = omega (arith, below-zero xs)
below_self xs o (suc d) = omega (arith, below_suc d xs, below_self xs o d, o d)

below-gap : (xs : List ℕ) → ((a : ℕ) → count a xs ≤ 1) → (d e : ℕ) → below (e + d) xs ≤ below d xs + e
below-gap xs o d zero = rw zero-add (omega arith)
below-gap xs o d (suc e) = rw suc-add (omega (arith, below_suc (e + d) xs, below-gap xs o d e, o (e + d)))

pub perm-fills : {n : ℕ} {xs : List ℕ} → Perm n xs → Fills 0 n xs
perm-fills {n} {xs} p d =
    let up : below n xs ≤ below (n - d + d) xs = below-mono (omega arith) xs in
    omega (arith, p.size, of-under n xs p.small, below-le d xs, below_self xs p.once d, below-gap xs p.once d (n - d))

-- ---- (2) the permutation of a number is one

pub length-perm_of : (n k : ℕ) → length (perm_of n k) ≡ n
unfolding perm_of
length-perm_of zero k = refl
length-perm_of (suc n) k = ap suc (length-map (perm_of n (k % fact n)) (bump (k / fact n)) ∙ length-perm_of n (k % fact n))

below-bump : (q d : ℕ) (xs : List ℕ) → below d (map (bump q) xs) ≡ below (d - less q d) xs
below-bump q d xs = total-map (λ x. less x d) (bump q) xs ∙ total_ext one xs
  where
    one : (x : ℕ) → less (bump q x) d ≡ less x (d - less q d)
    one x =
        let l = less-is (bump q x) d in
        let r = less-is x (d - less q d) in
        ⊎_elim (λ p. ⊎_elim (λ u. omega arith) (λ u. omega arith) (bump-cut q x)) (λ p. ⊎_elim (λ u. omega arith) (λ u. omega arith) (bump-cut q x))
        (less-cut q d)

digit_lt : (n k : ℕ) → k < fact (suc n) → k / fact n < suc n
digit_lt n k h = (div-lt_iff_lt-mul (fact-pos n)).1 h

perm_of-fills : (n k : ℕ) → k < fact n → Fills 0 n (perm_of n k)
unfolding perm_of
perm_of-fills zero k h d = omega arith
perm_of-fills (suc n) k h d =
    let q = k / fact n in
    let small = digit_lt n k h in
    let b = below-bump q d (perm_of n (k % fact n)) in
    let rest = perm_of-fills n (k % fact n) (mod-lt k (fact-pos n)) (d - less q d) in
    ⊎_elim (λ u. omega arith) (λ u. omega arith) (less-cut q d)

pub perm_of-perm : (n k : ℕ) → k < fact n → Perm n (perm_of n k)
perm_of-perm n k h = fills-perm (length-perm_of n k) (perm_of-fills n k h)

-- ---- (3) number, permutation, number

pub number-perm_of : (n k : ℕ) → k < fact n → number (perm_of n k) ≡ k
unfolding perm_of
number-perm_of zero k h = omega arith
number-perm_of (suc n) k h =
    let q = k / fact n in
    let p = perm_of n (k % fact n) in
    let b : below q (map (bump q) p) ≡ q = omega (arith, perm_of-fills (suc n) k h q, digit_lt n k h, less-is q q) in
    let l : length (map (bump q) p) ≡ n = length-map p (bump q) ∙ length-perm_of n (k % fact n) in
    let r : number (map (bump q) p) ≡ k % fact n = number-map (bump q) (bump-mono q) p ∙ number-perm_of n (k % fact n) (mod-lt k (fact-pos n)) in
    cc (div-add-mod' k (fact n))

-- ---- (4) permutation, number, permutation

-- the way back from bump
lower : ℕ → ℕ → ℕ
lower x y = y - less x y

bump-lower : (x : ℕ) (ys : List ℕ) → count x ys ≡ 0 → map (bump x) (map (lower x) ys) ≡ ys
unfolding lower
bump-lower x [] e = refl
bump-lower x (y ∷ ys) e = ap₂ ◌∷◌ (⊎_elim (λ p. omega (arith, bump-is x (y - less x y))) (λ p. omega (arith, same-is x y, bump-is x (y - less x y))) (less-cut x y)) (bump-lower x ys (omega arith))

perm_of-of-fills : (n : ℕ) (xs : List ℕ) → length xs ≡ n → Fills 0 n xs → perm_of n (number xs) ≡ xs
unfolding perm_of
perm_of-of-fills zero [] l f = refl
perm_of-of-fills zero (x ∷ xs) l f = absurd (suc-ne-zero (length xs) l)
perm_of-of-fills (suc n) [] l f = absurd (suc-ne-zero n (sym l))
perm_of-of-fills (suc n) (x ∷ ys) l f =
    let zs = map (lower x) ys in
    let m : length ys ≡ n = suc_inj l in
    let b : below x ys ≡ x = omega (arith, f x, less-is x x, below-le x ys) in
    let top : x ≤ n = omega (arith, f x, less-is x x, below-le x ys) in
    let back : map (bump x) zs ≡ ys = bump-lower x ys (omega (arith, f (suc x), less-is x (suc x), less-is x x, below_suc x ys, below-le x ys)) in
    let g : Fills 0 n zs =
    λ d. sym (below-map (bump x) (bump-mono x) d zs) ∙ ap (below (bump x d)) back
    ∙ (let e = f (bump x d) in let s = less-is x (bump x d) in ⊎_elim (λ u. omega arith) (λ u. omega arith) (bump-cut x d)) in
    let again : perm_of n (number ys) ≡ zs =
    ap (perm_of n) (ap number (sym back) ∙ number-map (bump x) (bump-mono x) zs) ∙ perm_of-of-fills n zs (length-map ys (lower x) ∙ m) g in
    let at : number (x ∷ ys) ≡ x * fact n + number ys = cc in
    let small : number ys < fact n = subst (λ (k : ℕ). number ys < fact k) m (number_lt ys) in
    ap₂ (λ (q r : ℕ). q ∷ map (bump q) (perm_of n r)) (ap (λ (k : ℕ). k / fact n) at ∙ digits_div x small) (ap (λ (k : ℕ). k % fact n) at ∙ digits_mod x small)
    ∙ ap (◌∷◌ x) (ap (map (bump x)) again ∙ back)

pub perm_of-number : (n : ℕ) (xs : List ℕ) → Perm n xs → perm_of n (number xs) ≡ xs
perm_of-number n xs p = perm_of-of-fills n xs p.size (perm-fills p)
