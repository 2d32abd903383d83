-- Laws of combinations: a computed test over the numbers n over k, and from it, by induction over the places, that number and mask tell each other.
-- Assumes nothing.
use mathlib.Core.Path.{◌≡◌, refl, sym, ap, ap₂, subst, ◌∙◌}
use mathlib.Core.Bool.{Bool, true, false, ◌&&◌}
use mathlib.Core.Logic.{⊎_elim}
use mathlib.Core.List.{List, [], ◌∷◌, ◌++◌, map-append}
use Prim.Native.Nat.{ℕ, zero, suc, ◌+◌, ◌-◌, ◌*◌, ◌≤◌, ◌<◌}
use native.Mathlib.Omega.{arith}
use lib.Dec.{ltb, leb, eqb}
use lib.ListN.{length, get_or, take, length-append, get_or-append}
use lib.Seq.{get_or_at, length-take-le}
use borrow.Author.Tests.{eqb-true, ltb-true, lt-ltb, le-leb, lt-leb}
use Rattle.base.specs.Combo.{choose, combo_number, combo_of, mask}
use Rattle.base.specs.Lists.{pick, all_below, Under, Sized}
use Rattle.base.specs.Perm.{less, below}
use Rattle.base.proofs.Digits.{total-append, under-append, take_last}
use Rattle.base.proofs.Perm.{less-is, less-cut}
use Rattle.base.proofs.Product.{map_at}
use Rattle.base.proofs.Tests.{and-true, below_true}

-- ---- n over k, for the numbers that come up

-- 0 above n; small, and still small before the division; and Pascal's sum
choose-fine : ℕ → ℕ → Bool
choose-fine n k =
    pick (ltb n k) (eqb (choose n k) 0) true
    && (ltb (choose n k * 12) 65536 && eqb (choose (suc n) (suc k)) (choose n k + choose n (suc k)))

chooses-fine : all_below (λ n. all_below (choose-fine n) 5) 12 ≡ true
unfolding choose-fine choose
chooses-fine = refl

module _ (n k : ℕ) (h : n < 12) (l : k < 5) where
  fine : choose-fine n k ≡ true
  fine = below_true (choose-fine n) 5 (below_true (λ n. all_below (choose-fine n) 5) 12 chooses-fine n h) k l

  pub choose-above : n < k → choose n k ≡ 0
  unfolding choose-fine
  choose-above a =
      let e = and-true (pick (ltb n k) (eqb (choose n k) 0) true) _ fine in
      eqb-true _ _ (rw (lt-ltb n k a) at e.0)

  pub choose-small : choose n k * 12 < 65536
  unfolding choose-fine
  choose-small =
      let e = and-true (pick (ltb n k) (eqb (choose n k) 0) true) _ fine in
      let f = and-true (ltb (choose n k * 12) 65536) _ e.1 in
      ltb-true _ _ f.0

  pub choose-sum : choose (suc n) (suc k) ≡ choose n k + choose n (suc k)
  unfolding choose-fine
  choose-sum =
      let e = and-true (pick (ltb n k) (eqb (choose n k) 0) true) _ fine in
      let f = and-true (ltb (choose n k * 12) 65536) _ e.1 in
      eqb-true _ _ f.1

-- ---- the number tells the mask alone

pub combo-ext : (i k : ℕ) (xs ys : List ℕ) → i ≤ length xs → length xs ≡ length ys → mask xs ≡ mask ys → combo_number i k xs ≡ combo_number i k ys
unfolding combo_number
combo-ext zero k xs ys h l e = refl
combo-ext (suc i) k xs ys h l e =
    let b : less (get_or xs i 0) 4 ≡ less (get_or ys i 0) 4 =
    sym (map_at (λ x. less x 4) xs i h) ∙ ap (λ (m : List ℕ). get_or m i 0) e ∙ map_at (λ x. less x 4) ys i (omega arith) in
    ap (λ (c : ℕ). c * choose i k + combo_number i (k - c) xs) b
    ∙ ap (λ (r : ℕ). less (get_or ys i 0) 4 * choose i k + r) (combo-ext i (k - less (get_or ys i 0) 4) xs ys (omega arith) l e)

-- ---- a list with one place more

-- xs has i places, k of them hold a piece below 4, n is its number, and n gives its mask back
record Codes (i k n : ℕ) (xs : List ℕ) : Type 0 where
  size : length xs ≡ i
  chosen : below 4 xs ≡ k
  number : combo_number i k xs ≡ n
  fits : n < choose i k
  marks : mask (combo_of i k n) ≡ mask xs

number-front : (i k : ℕ) (xs ys : List ℕ) → i ≤ length xs → combo_number i k (xs ++ ys) ≡ combo_number i k xs
unfolding combo_number
number-front zero k xs ys h = refl
number-front (suc i) k xs ys h =
    ap (λ (x : ℕ). less x 4 * choose i k + combo_number i (k - less x 4) (xs ++ ys)) (get_or-append xs ys 0 i h)
    ∙ ap (λ (r : ℕ). less (get_or xs i 0) 4 * choose i k + r) (number-front i (k - less (get_or xs i 0) 4) xs ys (omega arith))

mask-last : (x y : ℕ) (xs ys : List ℕ) → mask xs ≡ mask ys → less x 4 ≡ less y 4 → mask (xs ++ (x ∷ [])) ≡ mask (ys ++ (y ∷ []))
mask-last x y xs ys m e =
    map-append (λ x. less x 4) xs (x ∷ []) ∙ ap₂ (λ (l : List ℕ) (b : ℕ). l ++ (b ∷ [])) m e ∙ sym (map-append (λ x. less x 4) ys (y ∷ []))

of_low : (i k n : ℕ) → n < choose i k → combo_of (suc i) k n ≡ combo_of i k n ++ (4 ∷ [])
unfolding combo_of
of_low i k n h = rw (lt-leb (choose i k) n h)

of-high : (i k n : ℕ) → combo_of (suc i) (suc k) (choose i (suc k) + n) ≡ combo_of i k n ++ (k ∷ [])
unfolding combo_of
of-high i k n =
    let c = choose i (suc k) in
    let a : suc k - 1 ≡ k = omega arith in
    let b : c + n - c ≡ n = omega arith in
    rw (le-leb c (c + n) (omega arith), a, b)

choose-up : (i k : ℕ) → i < 12 → k < 5 → choose i k ≤ choose (suc i) k
unfolding choose
choose-up i zero h l = omega arith
choose-up i (suc k) h l = omega (arith, choose-sum i k h (omega arith))

-- a last piece of 4 or above leaves the number as it is; one below 4 adds i over suc k
module _ {i k n : ℕ} {xs : List ℕ} (x : ℕ) (h : i < 12) (c : Codes i k n xs) where
  number-last : (m b : ℕ) → less x 4 ≡ b → m - b ≡ k → combo_number (suc i) m (xs ++ (x ∷ [])) ≡ b * choose i m + n
  unfolding combo_number
  number-last m b e d =
      ap (λ (y : ℕ). y * choose i m + combo_number i (m - y) (xs ++ (x ∷ []))) (ap (λ (y : ℕ). less y 4) (get_or_at xs x [] 0 i c.size) ∙ e)
      ∙ ap (λ (r : ℕ). b * choose i m + r) (ap (λ (y : ℕ). combo_number i y (xs ++ (x ∷ []))) d ∙ number-front i k xs (x ∷ []) (omega arith) ∙ c.number)

  low : 4 ≤ x → k < 5 → Codes (suc i) k n (xs ++ (x ∷ []))
  low a l =
      let z : less x 4 ≡ 0 = omega (arith, less-is x 4) in
      record {
        size = omega (arith, length-append xs (x ∷ []));
        chosen = omega (arith, total-append (λ x. less x 4) xs (x ∷ []));
        number = number-last k 0 z (omega arith) ∙ omega arith;
        fits = omega (arith, choose-up i k h l);
        marks = ap mask (of_low i k n c.fits) ∙ mask-last 4 x (combo_of i k n) xs c.marks (omega (arith, less-is 4 4));
      }

  high : x < 4 → k < 4 → Codes (suc i) (suc k) (choose i (suc k) + n) (xs ++ (x ∷ []))
  high a l =
      let z : less x 4 ≡ 1 = omega (arith, less-is x 4) in
      record {
        size = omega (arith, length-append xs (x ∷ []));
        chosen = omega (arith, total-append (λ x. less x 4) xs (x ∷ []));
        number = number-last (suc k) 1 z (omega arith) ∙ omega arith;
        fits = omega (arith, choose-sum i k h (omega arith));
        marks = ap mask (of-high i k n) ∙ mask-last k x (combo_of i k n) xs c.marks (omega (arith, less-is k 4));
      }

empty : {n : ℕ} → n < 1 → Codes 0 0 n []
unfolding choose combo_number combo_of
empty h = record { size = refl; chosen = refl; number = omega arith; fits = h; marks = refl }

-- ---- from the number to a list

of-codes : (i k n : ℕ) → i ≤ 12 → k ≤ 4 → n < choose i k → Codes i k n (combo_of i k n)
unfolding choose combo_of
of-codes zero zero n h l s = empty s
of-codes zero (suc k) n h l s = absurd (omega (arith, choose-above 0 (suc k) (omega arith) (omega arith) (omega arith)))
of-codes (suc i) zero n h l s = rw (of_low i 0 n s) (low 4 h (of-codes i 0 n (omega arith) l s) (omega arith) (omega arith))
of-codes (suc i) (suc k) n h l s = ⊎_elim
    (λ u. rw (of_low i (suc k) n u.0) (low 4 h (of-codes i (suc k) n (omega arith) l u.0) (omega arith) (omega arith)))
    (λ u.
    let m = n - choose i (suc k) in
    let e : choose i (suc k) + m ≡ n = omega arith in
    subst (λ (n : ℕ). Codes (suc i) (suc k) n (combo_of (suc i) (suc k) n)) e
    (rw (of-high i k m) (high k h (of-codes i k m (omega arith) (omega arith) (omega (arith, choose-sum i k h (omega arith)))) l l)))
    (less-cut n (choose i (suc k)))

pick_under : (b : Bool) (xs ys : List ℕ) → Under 12 xs → Under 12 ys → Under 12 (pick b xs ys)
pick_under true xs ys u v = u
pick_under false xs ys u v = v

of-under : (i k n : ℕ) → k ≤ 4 → Under 12 (combo_of i k n)
unfolding combo_of
of-under zero k n l = tt
of-under (suc i) k n l =
    pick_under (leb (choose i k) n) _ _
    (under-append 12 (combo_of i (k - 1) (n - choose i k)) ((k - 1) ∷ []) (of-under i (k - 1) (n - choose i k) (omega arith)) (omega arith))
    (under-append 12 (combo_of i k n) (4 ∷ []) (of-under i k n l) (omega arith))

pub combo-back : (n : ℕ) → n < 495 → Sized 12 12 (combo_of 12 4 n) × (below 4 (combo_of 12 4 n) ≡ 4) × (combo_number 12 4 (combo_of 12 4 n) ≡ n)
unfolding choose
combo-back n h =
    let c = of-codes 12 4 n (omega arith) (omega arith) h in
    (record { size = c.size; small = of-under 12 4 n (omega arith) }, c.chosen, c.number)

-- ---- from the list to its number

codes : (i : ℕ) (xs : List ℕ) → i ≤ 12 → length xs ≡ i → below 4 xs ≤ 4 → (k : ℕ) × (n : ℕ) × Codes i k n xs
codes zero [] h l b = (0, 0, empty (omega arith))
codes zero (x ∷ xs) h l b = absurd (omega arith)
codes (suc i) xs h l b =
    let ys = take i xs in
    let x = get_or xs i 0 in
    let w : xs ≡ ys ++ (x ∷ []) = take_last i xs l in
    let t : below 4 xs ≡ below 4 ys + less x 4 = ap (below 4) w ∙ omega (arith, total-append (λ x. less x 4) ys (x ∷ [])) in
    let (k, n, c) = codes i ys (omega arith) (length-take-le i xs (omega arith)) (omega arith) in
    subst (λ (l : List ℕ). (k : ℕ) × (n : ℕ) × Codes (suc i) k n l) (sym w)
    (⊎_elim (λ u. (suc k, choose i (suc k) + n, high x h c u.0 (omega arith))) (λ u. (k, n, low x h c u.0 (omega arith))) (less-cut x 4))

module _ (xs : List ℕ) (l : length xs ≡ 12) (four : below 4 xs ≡ 4) where
  coded : (n : ℕ) × Codes 12 4 n xs
  coded =
      let (k, n, c) = codes 12 xs (omega arith) l (omega arith) in
      subst (λ (k : ℕ). (n : ℕ) × Codes 12 k n xs) (sym c.chosen ∙ four) (n, c)

  pub combo-small : combo_number 12 4 xs < 495
  unfolding choose
  combo-small = omega (arith, coded.1.number, coded.1.fits)

  pub combo-mask : mask (combo_of 12 4 (combo_number 12 4 xs)) ≡ mask xs
  combo-mask = ap (λ (n : ℕ). mask (combo_of 12 4 n)) coded.1.number ∙ coded.1.marks
