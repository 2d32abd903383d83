-- What the loops of `orientation_to_index` and `index_to_orientation` do to the list. Assumes nothing.
use mathlib.Core.Path.{◌≡◌, refl, sym, ap, ap₂, ◌∙◌}
use mathlib.Core.List.{List, [], ◌∷◌, ◌++◌}
use Prim.Native.Nat.{ℕ, zero, suc, ◌+◌, ◌-◌, ◌*◌, ◌/◌, ◌%◌, ◌^◌, ◌≤◌, ◌<◌}
use native.Mathlib.Nat.{sub_self, sub-zero, pow-zero, pow-succ', div-one, mod-lt, mod-eq_of_lt, mul_comm, mul_assoc, add-mul, div-div-eq-div-mul, le-mul_of_pos_right, not-suc-le-zero}
use native.Mathlib.Omega.{arith}
use lib.Arith.{mod-mul, digits_div, digits_mod}
use lib.ListN.{length, get_or, take, drop, set, length-set, length-take, length-drop, drop_of_length-le}
use lib.Seq.{drop-cons, take-suc-set, take_all, drop-set-lt, get_or-set_same}
use Rattle.base.specs.Digits.{digits, digits_of, orientation_of}
use Rattle.base.specs.Lists.{Under, total}
use Rattle.base.proofs.Digits.{pow_pos, digits-below, length-digits_of, digits_of-under}
use Rattle.base.proofs.Steps.{next}
use Rattle.base.proofs.Tests.{under_more, under-take}

-- ---- orientation_to_index: the places passed, in base k, and the number of what is left make the number of the whole

module _ (k : ℕ) (s : List ℕ) (i index : ℕ) (h : i < length s) (inv : index * k ^ (length s - i) + digits k (drop i s) ≡ digits k s) where
  pub digits_step : (index * k + get_or s i 0) * k ^ (length s - (i + 1)) + digits k (drop (i + 1) s) ≡ digits k s
  digits_step =
      let m = length s - (i + 1) in
      let x = get_or s i 0 in
      let t = drop (i + 1) s in
      let l : length s - i ≡ suc m = omega arith in
      let p : k ^ (length s - i) ≡ k * k ^ m = ap (λ (n : ℕ). k ^ n) l ∙ pow-succ' k m in
      let d : digits k (drop i s) ≡ x * k ^ m + digits k t =
      ap (digits k) (next s i h) ∙ ap (λ (n : ℕ). x * k ^ n + digits k t) (length-drop (i + 1) s) in
      let e : index * (k * k ^ m) + (x * k ^ m + digits k t) ≡ digits k s = ap₂ (λ (q r : ℕ). index * q + r) (sym p) (sym d) ∙ inv in
      let f : (index * k + x) * k ^ m ≡ index * (k * k ^ m) + x * k ^ m =
      add-mul (index * k) x (k ^ m) ∙ ap (λ (n : ℕ). n + x * k ^ m) (mul_assoc index k (k ^ m)) in
      omega arith

  pub digits-fit : 0 < k → k ^ length s ≤ 65536 → Under k s → index * k + get_or s i 0 < 65536
  digits-fit pos top u =
      let x = index * k + get_or s i 0 in
      omega (arith, digits_step, digits-below k pos s u, le-mul_of_pos_right x (pow_pos k pos (length s - (i + 1))))

pub digits-end : (k : ℕ) (s : List ℕ) (i index : ℕ) → i ≤ length s → length s ≤ i → index * k ^ (length s - i) + digits k (drop i s) ≡ digits k s → index ≡ digits k s
digits-end k s i index h l inv =
    let z : length s - i ≡ 0 = omega arith in
    let e : index * k ^ 0 + 0 ≡ digits k s = ap₂ (λ (n r : ℕ). index * k ^ n + r) (sym z) (sym (ap (digits k) (drop_of_length-le s l))) ∙ inv in
    let p = pow-zero k in
    let f : index * k ^ 0 ≡ index = ap (λ (n : ℕ). index * n) p ∙ omega arith in
    omega arith

-- all places but the last are what `orientation_to_index` asks for
pub all_but_last : (k n : ℕ) (xs : List ℕ) → length xs ≡ suc n → 0 < k → k ^ n ≤ 65536 → Under k xs
    → (0 < k) × (k ^ length (take n xs) ≤ 65536) × Under k (take n xs)
all_but_last k n xs l pos top u =
    let e : length (take n xs) ≡ n = simp length-take (omega arith) in
    (pos, rw e top, under-take k n xs u)

-- ---- index_to_orientation: the last m digits of v, the highest of them first

abbrev pub lowest : ℕ → ℕ → ℕ → List ℕ
lowest k m v = digits_of k m (v % k ^ m)

lowest-suc : (k m v : ℕ) → 0 < k → lowest k (suc m) v ≡ v / k ^ m % k ∷ lowest k m v
unfolding digits_of
lowest-suc k m v pos =
    let c : 0 < k ^ m = pow_pos k pos m in
    let e : v % k ^ suc m ≡ v / k ^ m % k * k ^ m + v % k ^ m = ap (λ (p : ℕ). v % p) (pow-succ' k m) ∙ mod-mul v pos c in
    let small : v % k ^ m < k ^ m = mod-lt v c in
    ap₂ (λ (q r : ℕ). q ∷ digits_of k m r) (ap (λ (x : ℕ). x / k ^ m) e ∙ digits_div (v / k ^ m % k) small) (ap (λ (x : ℕ). x % k ^ m) e ∙ digits_mod (v / k ^ m % k) small)

total-le : (xs : List ℕ) → Under 20 xs → total (λ x. x) xs ≤ 19 * length xs
total-le [] u = omega arith
total-le (x ∷ xs) u = omega (arith, u.0, total-le xs u.1)

pub fill_start : (k index n : ℕ) (s : List ℕ)
    → (index ≡ index / k ^ (n - n)) × (take (n - n) (drop n s) ≡ lowest k (n - n) index) × (0 ≡ total (λ x. x) (lowest k (n - n) index))
unfolding digits_of
fill_start k index n s = rw (sub_self, pow-zero) (sym (div-one index), refl, refl)

module _ (k n index rest sum i : ℕ) (s : List ℕ) (pos : 0 < k) (few : k ≤ 20) (short : n ≤ 11) (turn : 0 < i) (top : i ≤ n) (len : length s ≡ suc n)
    (digit : rest ≡ index / k ^ (n - i)) (held : take (n - i) (drop i s) ≡ lowest k (n - i) index) (added : sum ≡ total (λ x. x) (lowest k (n - i) index)) where
  suc-is : n - (i - 1) ≡ suc (n - i)
  suc-is = omega arith

  pub fill-digit : rest % k < k
  fill-digit = mod-lt rest pos

  pub fill-sum : sum + rest % k < 256
  fill-sum =
      let low = lowest k (n - i) index in
      let b = total-le low (under_more few low (digits_of-under k pos (n - i) (index % k ^ (n - i)) (mod-lt index (pow_pos k pos (n - i))))) in
      omega (arith, b, length-digits_of k pos (n - i) (index % k ^ (n - i)), fill-digit)

  pub fill-turn : (i - 1 ≤ n) × (length (set s (i - 1) (rest % k)) ≡ suc n) × (rest / k ≡ index / k ^ (n - (i - 1)))
      × (take (n - (i - 1)) (drop (i - 1) (set s (i - 1) (rest % k))) ≡ lowest k (n - (i - 1)) index)
      × (sum + rest % k ≡ total (λ x. x) (lowest k (n - (i - 1)) index))
  fill-turn =
      let m = n - i in
      let d = rest % k in
      let t = set s (i - 1) d in
      let here : i - 1 < length s = omega arith in
      let back : suc (i - 1) ≡ i = omega arith in
      let q : d ≡ index / k ^ m % k = ap (λ (r : ℕ). r % k) digit in
      let low : lowest k (n - (i - 1)) index ≡ d ∷ lowest k m index =
      ap (λ (e : ℕ). lowest k e index) suc-is ∙ lowest-suc k m index pos ∙ ap (λ (x : ℕ). x ∷ lowest k m index) (sym q) in
      let tail : drop (i - 1) t ≡ d ∷ drop i s =
      drop-cons t (i - 1) 0 (omega (arith, length-set s (i - 1) d))
      ∙ ap₂ (λ (x : ℕ) (l : List ℕ). x ∷ l) (get_or-set_same s (i - 1) d 0 here)
      (ap (λ (e : ℕ). drop e t) back ∙ drop-set-lt i s (i - 1) d (omega arith)) in (
        omega arith,
        length-set s (i - 1) d ∙ len,
        ap (λ (r : ℕ). r / k) digit ∙ div-div-eq-div-mul index (k ^ m) k
            ∙ ap (λ (e : ℕ). index / e) (mul_comm (k ^ m) k ∙ sym (pow-succ' k m)) ∙ ap (λ (e : ℕ). index / k ^ e) (sym suc-is),
        ap₂ (λ (e : ℕ) (l : List ℕ). take e l) suc-is tail ∙ ap (◌∷◌ d) held ∙ sym low,
        omega (arith, ap (total (λ x. x)) low),
      )

pub fill_end : (k n index sum i : ℕ) (s : List ℕ) → i ≤ 0 → length s ≡ suc n → index < k ^ n → take (n - i) (drop i s) ≡ lowest k (n - i) index
    → sum ≡ total (λ x. x) (lowest k (n - i) index) → set s n ((k - sum % k) % k) ≡ orientation_of k n index
fill_end k n index sum zero s z len h held added =
    let e : lowest k (n - 0) index ≡ digits_of k n index = rw sub-zero (ap (digits_of k n) (mod-eq_of_lt h)) in
    let front : take n s ≡ digits_of k n index = ap (λ (m : ℕ). take m s) (sym (sub-zero n)) ∙ held ∙ e in
    let v = (k - sum % k) % k in
    sym (take_all (suc n) (set s n v) (omega (arith, length-set s n v)))
    ∙ take-suc-set s n v (omega arith)
    ∙ ap₂ (λ (l : List ℕ) (x : ℕ). l ++ ((k - x % k) % k ∷ [])) front (added ∙ ap (total (λ x. x)) e)
fill_end k n index sum (suc i) s z len h held added = absurd (not-suc-le-zero z)
