-- A bit for each piece met: the count of the bits is the count of the pieces exactly where no piece stands twice. Over any length.
-- Assumes nothing.
use mathlib.Core.Path.{◌≡◌, refl, sym, ap, ap₂, ◌∙◌}
use mathlib.Core.Bool.{Bool, true, false}
use mathlib.Core.Logic.{⊎_elim}
use mathlib.Core.List.{List, [], ◌∷◌}
use Prim.Native.Nat.{ℕ, zero, suc, ◌+◌, ◌*◌, ◌/◌, ◌%◌, ◌^◌, ◌≤◌, ◌<◌, max}
use native.Mathlib.Nat.{zero-lt-suc, mod-lt, mod-eq_of_lt, one-mul, pow-suc, pow-succ', div-one, zero-div, div-eq_of_lt, mul-mod_left, mul-div-mul_right, div-div-eq-div-mul}
use native.Mathlib.Omega.{arith}
use lib.Arith.{digits_div, digits_mod}
use lib.Bits.{bit_or, or_step, or_shr, or_zero_r, or_lt}
use lib.Count.{ones, ones_step}
use lib.Dec.{eqb}
use lib.ListN.{length, get_or, drop}
use lib.Pow.{pow_pos, pow-lt}
use borrow.Author.Tests.{eqb-true, eq-eqb}
use Rattle.base.specs.Perm.{same, count, no_repeat}
use Rattle.base.proofs.Perm.{same-is, same-cut}
use Rattle.base.proofs.Steps.{next}
use Rattle.base.proofs.Tests.{no_repeat-once, once-no_repeat}

abbrev pub mask_from : ℕ → List ℕ → ℕ
mask_from m [] = m
mask_from m (x ∷ xs) = mask_from (bit_or m (2 ^ x)) xs

-- the bit of m at x
abbrev seen : ℕ → ℕ → ℕ
seen m x = m / 2 ^ x % 2

seen-lt : (m x : ℕ) → seen m x < 2
seen-lt m x = mod-lt (m / 2 ^ x) (zero-lt-suc 1)

-- ---- one piece more

max-lt : (a b : ℕ) → a < 2 → b < 2 → max a b < 2
max-lt a b h k = omega arith

or-low : (a b : ℕ) → bit_or a b % 2 ≡ max (a % 2) (b % 2)
or-low a b =
    ap (λ (n : ℕ). n % 2) (or_step a b)
    ∙ digits_mod (bit_or (a / 2) (b / 2)) (max-lt (a % 2) (b % 2) (mod-lt a (zero-lt-suc 1)) (mod-lt b (zero-lt-suc 1)))

or-half : (a b : ℕ) → bit_or a b / 2 ≡ bit_or (a / 2) (b / 2)
or-half a b =
    ap (λ (n : ℕ). n / 2) (or_step a b)
    ∙ digits_div (bit_or (a / 2) (b / 2)) (max-lt (a % 2) (b % 2) (mod-lt a (zero-lt-suc 1)) (mod-lt b (zero-lt-suc 1)))

pow-half : (x : ℕ) → 2 ^ suc x / 2 ≡ 2 ^ x
pow-half x = ap (λ (n : ℕ). n / 2) (pow-suc 2 x) ∙ digits-div-even (2 ^ x)
  where
    digits-div-even : (n : ℕ) → n * 2 / 2 ≡ n
    digits-div-even n = omega arith

pow_even : (x : ℕ) → 2 ^ suc x % 2 ≡ 0
pow_even x = ap (λ (n : ℕ). n % 2) (pow-suc 2 x) ∙ mul-mod_left (2 ^ x) 2

pow-bit : (x a : ℕ) → seen (2 ^ x) a ≡ same x a
unfolding same
pow-bit zero zero = refl
pow-bit zero (suc a) = ap (λ (n : ℕ). n % 2) (div-eq_of_lt (pow-lt (zero-lt-suc a))) ∙ omega (arith, same-is 0 (suc a))
pow-bit (suc x) zero = ap (λ (n : ℕ). n % 2) (div-one (2 ^ suc x)) ∙ pow_even x ∙ omega (arith, same-is (suc x) 0)
pow-bit (suc x) (suc a) =
    ap (λ (n : ℕ). n % 2) (ap₂ ◌/◌ (pow-suc 2 x) (pow-suc 2 a) ∙ mul-div-mul_right (2 ^ x) (2 ^ a) (zero-lt-suc 1))
    ∙ pow-bit x a ∙ omega (arith, same-is x a, same-is (suc x) (suc a))

-- its own bit is set, and every other stays
or-seen : (m x a : ℕ) → seen (bit_or m (2 ^ x)) a ≡ max (seen m a) (same x a)
or-seen m x a = ap (λ (n : ℕ). n % 2) (or_shr m (2 ^ x) a) ∙ or-low (m / 2 ^ a) (2 ^ x / 2 ^ a) ∙ ap (max (seen m a)) (pow-bit x a)

-- the count goes up by one, unless the bit was set already
ones-or : (x m : ℕ) → ones (bit_or m (2 ^ x)) + seen m x ≡ ones m + 1
ones-or zero m =
    let s = ones_step (bit_or m 1) in
    let l : bit_or m 1 % 2 ≡ max (m % 2) 1 = or-low m 1 in
    let h : ones (bit_or m 1 / 2) ≡ ones (m / 2) = ap ones (or-half m 1 ∙ or_zero_r (m / 2)) in
    omega (arith, ones_step m, mod-lt m (zero-lt-suc 1), ap (λ (n : ℕ). n % 2) (div-one m))
ones-or (suc x) m =
    let s = ones_step (bit_or m (2 ^ suc x)) in
    let l : bit_or m (2 ^ suc x) % 2 ≡ max (m % 2) 0 = or-low m (2 ^ suc x) ∙ ap (max (m % 2)) (pow_even x) in
    let h : ones (bit_or m (2 ^ suc x) / 2) ≡ ones (bit_or (m / 2) (2 ^ x)) = ap ones (or-half m (2 ^ suc x) ∙ ap (bit_or (m / 2)) (pow-half x)) in
    let e : seen m (suc x) ≡ seen (m / 2) x = ap (λ (n : ℕ). n % 2) (ap (λ (n : ℕ). m / n) (pow-succ' 2 x) ∙ sym (div-div-eq-div-mul m 2 (2 ^ x))) in
    omega (arith, ones_step m, ones-or x (m / 2))

-- ---- all the pieces

-- how many pieces find their bit set
repeats : ℕ → List ℕ → ℕ
repeats m [] = 0
repeats m (x ∷ xs) = seen m x + repeats (bit_or m (2 ^ x)) xs

ones-mask : (m : ℕ) (xs : List ℕ) → ones (mask_from m xs) + repeats m xs ≡ ones m + length xs
unfolding repeats
ones-mask m [] = refl
ones-mask m (x ∷ xs) = omega (arith, ones-or x m, ones-mask (bit_or m (2 ^ x)) xs)

none-once : (m : ℕ) (xs : List ℕ) → repeats m xs ≡ 0 → (a : ℕ) → count a xs + seen m a ≤ 1
unfolding repeats
none-once m [] e a = omega (arith, seen-lt m a)
none-once m (x ∷ xs) e a =
    let ih = none-once (bit_or m (2 ^ x)) xs (omega arith) a in
    let b = or-seen m x a in
    ⊎_elim (λ p. omega (arith, ap (seen m) p.0, same-is x a)) (λ p. omega arith) (same-cut a x)

once-none : (m : ℕ) (xs : List ℕ) → ((a : ℕ) → count a xs + seen m a ≤ 1) → repeats m xs ≡ 0
unfolding repeats
once-none m [] o = refl
once-none m (x ∷ xs) o = omega (arith, o x, same-is x x, once-none (bit_or m (2 ^ x)) xs rest)
  where
    rest : (a : ℕ) → count a xs + seen (bit_or m (2 ^ x)) a ≤ 1
    rest a = omega (arith, o a, or-seen m x a, same-is a x, same-is x a)

-- ---- the law

same_bool : (b c : Bool) → (b ≡ true → c ≡ true) → (c ≡ true → b ≡ true) → b ≡ c
same_bool true c f g = sym (f refl)
same_bool false true f g = g refl
same_bool false false f g = refl

pub mask-law : (xs : List ℕ) → eqb (ones (mask_from 0 xs)) (length xs) ≡ no_repeat xs
mask-law xs = same_bool _ _ to fro
  where
    zero_seen : (a : ℕ) → seen 0 a ≡ 0
    zero_seen a = ap (λ (n : ℕ). n % 2) (zero-div (2 ^ a))

    zero-ones : ones 0 ≡ 0
    zero-ones = unfold ones in refl

    to : eqb (ones (mask_from 0 xs)) (length xs) ≡ true → no_repeat xs ≡ true
    to e =
        let n : repeats 0 xs ≡ 0 = omega (arith, eqb-true (ones (mask_from 0 xs)) (length xs) e, ones-mask 0 xs, zero-ones) in
        once-no_repeat xs (λ a. omega (arith, none-once 0 xs n a))

    fro : no_repeat xs ≡ true → eqb (ones (mask_from 0 xs)) (length xs) ≡ true
    fro e =
        let n : repeats 0 xs ≡ 0 = once-none 0 xs (λ a. omega (arith, no_repeat-once xs e a, zero_seen a)) in
        eq-eqb (ones (mask_from 0 xs)) (length xs) (omega (arith, ones-mask 0 xs, zero-ones))

-- ---- one turn of the loop, with the shift as the machine has it

shift_is : (x : ℕ) → x < 32 → 1 * 2 ^ x % 2 ^ 32 ≡ 2 ^ x
shift_is x h = ap (λ (n : ℕ). n % 2 ^ 32) (one-mul (2 ^ x)) ∙ mod-eq_of_lt (pow-lt h)

pub mask_lt : (m x : ℕ) → m < 2 ^ 32 → bit_or m (1 * 2 ^ x % 2 ^ 32) < 2 ^ 32
mask_lt m x h = or_lt 32 m (1 * 2 ^ x % 2 ^ 32) h (mod-lt (1 * 2 ^ x) (pow_pos 32))

pub mask_step : (m : ℕ) (s : List ℕ) (i : ℕ) → i < length s → get_or s i 0 < 32
    → mask_from (bit_or m (1 * 2 ^ get_or s i 0 % 2 ^ 32)) (drop (i + 1) s) ≡ mask_from m (drop i s)
mask_step m s i h k =
    ap (λ (b : ℕ). mask_from (bit_or m b) (drop (i + 1) s)) (shift_is (get_or s i 0) k) ∙ sym (ap (mask_from m) (next s i h))
