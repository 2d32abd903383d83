-- Laws of `digits` and `orientation_of`, proved once over the base and the length.
-- Assumes nothing.
use mathlib.Core.Path.{◌≡◌, refl, sym, ap, ap₂, subst, ◌∙◌}
use mathlib.Core.Logic.{⊎_elim}
use mathlib.Core.List.{List, [], ◌∷◌, ◌++◌}
use Prim.Native.Nat.{ℕ, zero, suc, ◌+◌, ◌-◌, ◌*◌, ◌/◌, ◌%◌, ◌^◌, ◌≤◌, ◌<◌}
use native.Mathlib.Nat.{zero-lt-suc, suc_inj, suc-ne-zero, eq-or-lt_of_le, pow-zero, pow-succ', one-le-pow, mod-lt, mod_self, mod-eq_of_lt, mod-add-mod, mod-eq-sub-mod, div-lt_iff_lt-mul, div-add-mod'}
use native.Mathlib.Omega.{arith}
use lib.Arith.{digits_lt, digits_div, digits_mod}
use lib.ListN.{length, get_or, take, length-append}
use lib.Seq.{take-suc, take_all, take_at, length-take-le}
use Rattle.base.specs.Digits.{digits, digits_of, completing, orientation_of}
use Rattle.base.specs.Lists.{Under, Sized, total}
use Rattle.base.proofs.Perm.{less-cut}
use Rattle.base.proofs.Tests.{under_at, under-take}

pub total-append : (g : ℕ → ℕ) (xs ys : List ℕ) → total g (xs ++ ys) ≡ total g xs + total g ys
total-append g [] ys = omega arith
total-append g (x ∷ xs) ys = omega (arith, total-append g xs ys)

pub under-append : (n : ℕ) (xs ys : List ℕ) → Under n xs → Under n ys → Under n (xs ++ ys)
under-append n [] ys u v = v
under-append n (x ∷ xs) ys u v = (u.0, under-append n xs ys u.1 v)

-- a list of one more than n is its first n, and a last one
pub take_last : (n : ℕ) (xs : List ℕ) → length xs ≡ suc n → xs ≡ take n xs ++ (get_or xs n 0 ∷ [])
take_last n xs l = sym (take_all (suc n) xs (omega arith)) ∙ take-suc xs n 0 (omega arith)

module _ (k : ℕ) (pos : 0 < k) where
  pub pow_pos : (n : ℕ) → 0 < k ^ n
  pow_pos n = one-le-pow n k pos

  -- ---- the digits

  pub digits-below : (xs : List ℕ) → Under k xs → digits k xs < k ^ length xs
  digits-below [] u = rw pow-zero (zero-lt-suc 0)
  digits-below (x ∷ xs) u = rw (pow-succ' k (length xs)) (digits_lt u.0 (digits-below xs u.1))

  pub length-digits_of : (n v : ℕ) → length (digits_of k n v) ≡ n
  unfolding digits_of
  length-digits_of zero v = refl
  length-digits_of (suc n) v = ap suc (length-digits_of n (v % k ^ n))

  pub digits_of-under : (n v : ℕ) → v < k ^ n → Under k (digits_of k n v)
  unfolding digits_of
  digits_of-under zero v h = tt
  digits_of-under (suc n) v h =
      ((div-lt_iff_lt-mul (pow_pos n)).1 (subst (λ (p : ℕ). v < p) (pow-succ' k n) h), digits_of-under n (v % k ^ n) (mod-lt v (pow_pos n)))

  -- number, digits, number
  pub digits-digits_of : (n v : ℕ) → v < k ^ n → digits k (digits_of k n v) ≡ v
  unfolding digits_of
  digits-digits_of zero v h = let e = pow-zero k in omega arith
  digits-digits_of (suc n) v h =
      ap₂ (λ (m r : ℕ). v / k ^ n * k ^ m + r) (length-digits_of n (v % k ^ n)) (digits-digits_of n (v % k ^ n) (mod-lt v (pow_pos n)))
      ∙ div-add-mod' v (k ^ n)

  -- digits, number, digits
  pub digits_of-digits : (n : ℕ) (xs : List ℕ) → length xs ≡ n → Under k xs → digits_of k n (digits k xs) ≡ xs
  unfolding digits_of
  digits_of-digits zero [] l u = refl
  digits_of-digits zero (x ∷ xs) l u = absurd (suc-ne-zero (length xs) l)
  digits_of-digits (suc n) [] l u = absurd (suc-ne-zero n (sym l))
  digits_of-digits (suc n) (x ∷ xs) l u =
      let m : length xs ≡ n = suc_inj l in
      let at : digits k (x ∷ xs) ≡ x * k ^ n + digits k xs = ap (λ (e : ℕ). x * k ^ e + digits k xs) m in
      let small : digits k xs < k ^ n = subst (λ (e : ℕ). digits k xs < k ^ e) m (digits-below xs u.1) in
      ap₂ (λ (q r : ℕ). q ∷ digits_of k n r) (ap (λ (v : ℕ). v / k ^ n) at ∙ digits_div x small) (ap (λ (v : ℕ). v % k ^ n) at ∙ digits_mod x small)
      ∙ ap (◌∷◌ x) (digits_of-digits n xs m u.1)

  -- ---- the last place

  -- what is added brings the sum to 0 modulo k, and nothing else below k does
  completes : (s : ℕ) → (s + (k - s % k) % k) % k ≡ 0
  completes s =
      let r = s % k in
      let small : r < k = mod-lt s pos in
      sym (mod-add-mod s k ((k - r) % k))
      ∙ ⊎_elim
      (λ (z : 0 ≡ r).
      let e : k - r ≡ k = omega arith in
      ap (λ (x : ℕ). (r + x % k) % k) e ∙ ap (λ (x : ℕ). (r + x) % k) (mod_self k) ∙ (let f : r + 0 ≡ r = omega arith in ap (λ (x : ℕ). x % k) f) ∙ mod-eq_of_lt small ∙ sym z)
      (λ (p : 0 < r).
      ap (λ (x : ℕ). (r + x) % k) (mod-eq_of_lt {n = k - r} {m = k} (omega arith)) ∙ (let f : r + (k - r) ≡ k = omega arith in ap (λ (x : ℕ). x % k) f) ∙ mod_self k)
      (eq-or-lt_of_le {n = 0} {m = r} (omega arith))

  only-completes : (s x : ℕ) → x < k → (s + x) % k ≡ 0 → (k - s % k) % k ≡ x
  only-completes s x h e =
      let r = s % k in
      let small : r < k = mod-lt s pos in
      let f : (r + x) % k ≡ 0 = mod-add-mod s k x ∙ e in
      ⊎_elim
      (λ u.
      let m : r + x ≡ 0 = sym (mod-eq_of_lt u.0) ∙ f in
      let b : k - r ≡ k = omega arith in
      ap (λ (y : ℕ). y % k) b ∙ mod_self k ∙ omega arith)
      (λ u.
      let q : k ≤ r + x = u.0 in
      let m : r + x - k ≡ 0 = sym (mod-eq_of_lt {n = r + x - k} {m = k} (omega arith)) ∙ sym (mod-eq-sub-mod q) ∙ f in
      let b : k - r ≡ x = omega arith in
      ap (λ (y : ℕ). y % k) b ∙ mod-eq_of_lt h)
      (less-cut (r + x) k)

  -- ---- the orientation of a number, and the number of an orientation

  pub orientation-sized : (n v : ℕ) → v < k ^ n → Sized (suc n) k (orientation_of k n v)
  orientation-sized n v h =
      let d = digits_of k n v in
      record {
        size = length-append d (completing k d ∷ []) ∙ omega (arith, length-digits_of n v);
        small = under-append k d (completing k d ∷ []) (digits_of-under n v h) (mod-lt (k - total (λ x. x) d % k) pos, tt);
      }

  pub orientation-sum : (n v : ℕ) → total (λ x. x) (orientation_of k n v) % k ≡ 0
  orientation-sum n v =
      let d = digits_of k n v in
      let e : total (λ x. x) (orientation_of k n v) ≡ total (λ x. x) d + completing k d = omega (arith, total-append (λ x. x) d (completing k d ∷ [])) in
      ap (λ (s : ℕ). s % k) e ∙ completes (total (λ x. x) d)

  pub orientation-number : (n v : ℕ) → v < k ^ n → digits k (take n (orientation_of k n v)) ≡ v
  orientation-number n v h =
      ap (digits k) (take_at (digits_of k n v) (completing k (digits_of k n v) ∷ []) n (length-digits_of n v)) ∙ digits-digits_of n v h

  pub number-orientation : (n : ℕ) (xs : List ℕ) → Sized (suc n) k xs → total (λ x. x) xs % k ≡ 0 → orientation_of k n (digits k (take n xs)) ≡ xs
  number-orientation n xs s e =
      let t = take n xs in
      let y = get_or xs n 0 in
      let whole : xs ≡ t ++ (y ∷ []) = take_last n xs s.size in
      let back : digits_of k n (digits k t) ≡ t = digits_of-digits n t (length-take-le n xs (omega (arith, s.size))) (under-take k n xs s.small) in
      let sum : total (λ x. x) xs ≡ total (λ x. x) t + y = ap (total (λ x. x)) whole ∙ omega (arith, total-append (λ x. x) t (y ∷ [])) in
      let last : completing k t ≡ y = only-completes (total (λ x. x) t) y (under_at k xs n s.small (omega (arith, s.size))) (ap (λ (x : ℕ). x % k) (sym sum) ∙ e) in
      ap (λ (l : List ℕ). l ++ (completing k l ∷ [])) back ∙ ap (λ (x : ℕ). t ++ (x ∷ [])) last ∙ sym whole

  pub number-below : (n : ℕ) (xs : List ℕ) → Sized (suc n) k xs → digits k (take n xs) < k ^ n
  number-below n xs s =
      subst (λ (m : ℕ). digits k (take n xs) < k ^ m) (length-take-le n xs (omega (arith, s.size))) (digits-below (take n xs) (under-take k n xs s.small))
