-- Sets of columns: the lowest column and the others, and what passes a test. Assumes nothing.
use Prim.Native.Nat.{ℕ, zero, suc, ◌+◌, ◌-◌, ◌*◌, ◌/◌, ◌%◌, ◌^◌, ◌<◌, ◌≤◌, min}
use mathlib.Core.Path.{◌≡◌, refl, sym, ap, subst, ◌∙◌}
use mathlib.Core.Bool.{Bool, true, false}
use mathlib.Core.List.{List, [], ◌∷◌}
use mathlib.Core.Logic.{◌⊎◌, inl, inr, ⊎_elim}
use native.Mathlib.Omega.{arith}
use native.Mathlib.Nat.{le_refl, zero-add, add-zero, mod-lt, zero-lt-suc}
use native.Mathlib.Numerals.{add-one}
use lib.Bits.{bit_and, and_step, and_self}
use lib.Count.{count_trailing_zeros, under}
use lib.ListN.{length}
use lib.Pow.{shr_lt}
use Rattle.base.specs.Lists.{pick, Each, Under}
use Rattle.base.specs.Sets.{with_bit, bits_from, columns_of, keep}

-- ---- the lowest column, and the others

bits_none : (k j : ℕ) → bits_from k j 0 ≡ []
unfolding bits_from
bits_none zero j = refl
bits_none (suc k) j = bits_none k (suc j)

-- a number without its lowest bit, by its halves
odd-less : (m : ℕ) → m % 2 ≡ 1 → (bit_and m (m - 1) / 2 ≡ m / 2) × (bit_and m (m - 1) % 2 ≡ 0)
odd-less m o =
    let h : (m - 1) / 2 ≡ m / 2 = omega arith in
    let l : (m - 1) % 2 ≡ 0 = omega arith in
    let e : bit_and m (m - 1) ≡ m / 2 * 2 + min (m % 2) ((m - 1) % 2) = and_step m (m - 1) ∙ ap (λ (n : ℕ). bit_and (m / 2) n * 2 + min (m % 2) ((m - 1) % 2)) h ∙ ap (λ (n : ℕ). n * 2 + min (m % 2) ((m - 1) % 2)) (and_self (m / 2)) in
    (omega (arith, e, l), omega (arith, e, l))

even-less : (m : ℕ) → m % 2 ≡ 0 → 0 < m → (bit_and m (m - 1) / 2 ≡ bit_and (m / 2) (m / 2 - 1)) × (bit_and m (m - 1) % 2 ≡ 0)
even-less m z p =
    let h : (m - 1) / 2 ≡ m / 2 - 1 = omega arith in
    let e : bit_and m (m - 1) ≡ bit_and (m / 2) (m / 2 - 1) * 2 + min (m % 2) ((m - 1) % 2) = and_step m (m - 1) ∙ ap (λ (n : ℕ). bit_and (m / 2) n * 2 + min (m % 2) ((m - 1) % 2)) h in
    (omega (arith, e, z), omega (arith, e, z))

half_lt : {n : ℕ} (k : ℕ) → n < 2 ^ suc k → n / 2 < 2 ^ k
half_lt {n} k h = shr_lt k 1 (subst (λ (x : ℕ). n < 2 ^ x) (sym (add-one k)) h)

zero-or-one : (b : ℕ) → b < 2 → (b ≡ 0) ⊎ (b ≡ 1)
zero-or-one zero h = inl refl
zero-or-one (suc zero) h = inr refl
zero-or-one (suc (suc b)) h = absurd (omega arith)

module _ (j m n t : ℕ) (rest : ℕ → List ℕ) where
  first-odd : m % 2 ≡ 1 → n % 2 ≡ 0 → n / 2 ≡ m / 2 → with_bit (m % 2) j (rest (m / 2)) ≡ (j + under (m % 2) t) ∷ with_bit (n % 2) j (rest (n / 2))
  first-odd o e h =
      (λ i. with_bit (o i) j (rest (m / 2)))
      ∙ ap (λ (k : ℕ). k ∷ rest (m / 2)) (sym (add-zero j))
      ∙ sym (λ i. (j + under (o i) t) ∷ with_bit (e i) j (rest (h i)))

  first-even : m % 2 ≡ 0 → n % 2 ≡ 0 → rest (m / 2) ≡ (suc j + t) ∷ rest (n / 2) → with_bit (m % 2) j (rest (m / 2)) ≡ (j + under (m % 2) t) ∷ with_bit (n % 2) j (rest (n / 2))
  first-even z e h =
      (λ i. with_bit (z i) j (rest (m / 2)))
      ∙ h
      ∙ ap (λ (k : ℕ). k ∷ rest (n / 2)) next
      ∙ sym (λ i. (j + under (z i) t) ∷ with_bit (e i) j (rest (n / 2)))
    where
      next : suc j + t ≡ j + suc t
      next = omega arith

bits-first : (k j m : ℕ) → 0 < m → m < 2 ^ k → bits_from k j m ≡ (j + count_trailing_zeros k m) ∷ bits_from k j (bit_and m (m - 1))
unfolding bits_from count_trailing_zeros
bits-first zero j m p h = absurd (omega arith)
bits-first (suc k) j m p h =
    ⊎_elim
    (λ z.
    let e = even-less m z p in
    first-even j m (bit_and m (m - 1)) (count_trailing_zeros k (m / 2)) (bits_from k (suc j)) z e.1
    (bits-first k (suc j) (m / 2) (omega arith) (half_lt k h) ∙ ap (λ (n : ℕ). (suc j + count_trailing_zeros k (m / 2)) ∷ bits_from k (suc j) n) (sym e.0)))
    (λ o.
    let e = odd-less m o in
    first-odd j m (bit_and m (m - 1)) (count_trailing_zeros k (m / 2)) (bits_from k (suc j)) o e.1 e.0)
    (zero-or-one (m % 2) (mod-lt m (zero-lt-suc 1)))

pub columns-none : (m : ℕ) → m ≡ 0 → columns_of m ≡ []
unfolding columns_of
columns-none m z = ap (bits_from 32 0) z ∙ bits_none 32 0

pub columns-first : (m : ℕ) → 0 < m → m < 4294967296 → columns_of m ≡ count_trailing_zeros 32 m ∷ columns_of (bit_and m (m - 1))
unfolding columns_of
columns-first m p h = bits-first 32 0 m p h ∙ ap (λ (n : ℕ). n ∷ bits_from 32 0 (bit_and m (m - 1))) (zero-add (count_trailing_zeros 32 m))

-- a set of bits of a word has at most 32 columns
with-few : (b j k : ℕ) (l : List ℕ) → length l ≤ k → length (with_bit b j l) ≤ suc k
with-few zero j k l h = omega arith
with-few (suc b) j k l h = omega arith

bits-few : (k j m : ℕ) → length (bits_from k j m) ≤ k
unfolding bits_from
bits-few zero j m = le_refl 0
bits-few (suc k) j m = with-few (m % 2) j k (bits_from k (suc j) (m / 2)) (bits-few k (suc j) (m / 2))

pub columns-few : (m : ℕ) → length (columns_of m) ≤ 32
unfolding columns_of
columns-few m = bits-few 32 0 m

-- the first of the columns is below w, and so are the others
pub first-low : {w j : ℕ} {ms ms' : List ℕ} → ms ≡ j ∷ ms' → Under w ms → (j < w) × Under w ms'
first-low {w} e u = subst (Under w) e u

pub first-is : {j k : ℕ} {ms ms' : List ℕ} → j ≡ k → ms ≡ k ∷ ms' → ms ≡ j ∷ ms'
first-is {ms' = ms'} e f = f ∙ ap (λ (i : ℕ). i ∷ ms') (sym e)

-- ---- what passes a test

pub keep-under : (w : ℕ) (p : ℕ → Bool) (l : List ℕ) → Under w l → Under w (keep p l)
unfolding keep
keep-under w p [] u = tt
keep-under w p (j ∷ l) u = by (p j) (keep-under w p l u.1)
  where
    by : (b : Bool) → Under w (keep p l) → Under w (pick b (j ∷ keep p l) (keep p l))
    by true v = (u.0, v)
    by false v = v

pub keep_same : (p q : ℕ → Bool) (l : List ℕ) → Each (λ j. p j ≡ q j) l → keep p l ≡ keep q l
unfolding keep
keep_same p q [] a = refl
keep_same p q (j ∷ l) a = λ i. pick (a.0 i) (j ∷ keep_same p q l a.1 i) (keep_same p q l a.1 i)
