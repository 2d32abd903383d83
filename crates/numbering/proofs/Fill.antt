-- What the loops of `raise` and `fill_perm_slice` do to the list. Assumes nothing.
use mathlib.Core.Path.{◌≡◌, refl, sym, ap, ap₂, ◌∙◌}
use mathlib.Core.List.{List, [], ◌∷◌, ◌++◌, map, map-append, append_assoc, append-nil}
use Prim.Native.Nat.{ℕ, zero, suc, ◌+◌, ◌-◌, ◌*◌, ◌/◌, ◌%◌, ◌≤◌, ◌<◌}
use native.Mathlib.Nat.{zero-lt-suc, not-suc-le-zero, le_of_eq, sub_self, sub-zero, zero-add, div-one, mod-lt, mod-eq_of_lt, mul_comm, div-div-eq-div-mul}
use native.Mathlib.Numerals.{add-one}
use native.Mathlib.Omega.{arith}
use borrow.Rule.Slice.PartMut.{put_mid, same_len_mid}
use lib.Arith.{mod-mul, digits_div, digits_mod}
use lib.ListN.{length, get_or, take, drop, set, length-map, length-set, length-drop, drop_of_length-le}
use lib.Seq.{length-take-le, take-suc, take_all, append_snoc, get_or_at, set_at, drop_at, drop-length, drop-set-lt, take-suc-set}
use Rattle.base.specs.Lists.{Under}
use Rattle.base.specs.Perm.{fact, bump, perm_of}
use Rattle.base.proofs.Perm.{bump-is, fact-pos, perm_of-perm}
use Rattle.base.proofs.Steps.{next}
use Rattle.base.proofs.Tests.{under-map}

-- the first j places raised
abbrev pub raised : ℕ → ℕ → List ℕ → List ℕ
raised d j s = map (bump d) (take j s) ++ drop j s

module _ (d j : ℕ) (s : List ℕ) (h : j < length s) where
  front : length (map (bump d) (take j s)) ≡ j
  front = length-map (take j s) (bump d) ∙ length-take-le j s (omega arith)

  split : raised d j s ≡ map (bump d) (take j s) ++ (get_or s j 0 ∷ drop (j + 1) s)
  split = ap (λ (r : List ℕ). map (bump d) (take j s) ++ r) (next s j h)

  pub raised_at : get_or (raised d j s) j 0 ≡ get_or s j 0
  raised_at = ap (λ (l : List ℕ). get_or l j 0) split ∙ get_or_at (map (bump d) (take j s)) (get_or s j 0) (drop (j + 1) s) 0 j front

  raised-more : raised d (j + 1) s ≡ set (raised d j s) j (bump d (get_or s j 0))
  raised-more =
      let p = map (bump d) (take j s) in
      let x = get_or s j 0 in
      let t = drop (j + 1) s in
      let e : take (j + 1) s ≡ take j s ++ (x ∷ []) = ap (λ (k : ℕ). take k s) (add-one j) ∙ take-suc s j 0 h in
      ap (λ (l : List ℕ). l ++ t) (ap (map (bump d)) e ∙ map-append (bump d) (take j s) (x ∷ [])) ∙ append_snoc p (bump d x) t
      ∙ sym (ap (λ (l : List ℕ). set l j (bump d x)) split ∙ set_at p x t (bump d x) j front)

pub raised_all : (d j : ℕ) (s : List ℕ) → length s ≤ j → raised d j s ≡ map (bump d) s
raised_all d j s h = ap₂ (λ (a b : List ℕ). map (bump d) a ++ b) (take_all j s h) (drop_of_length-le s h) ∙ append-nil (map (bump d) s)

-- one turn of `raise`, by its two ways
module _ (d j : ℕ) (s₀ s : List ℕ) (h : j < length s) (l : length s ≡ length s₀) (inv : s ≡ raised d j s₀) where
  pub raised-same : get_or s j 0 ≡ get_or s₀ j 0
  raised-same = ap (λ (r : List ℕ). get_or r j 0) inv ∙ raised_at d j s₀ (omega arith)

  turn : (t : List ℕ) (v : ℕ) → t ≡ set s j v → v ≡ bump d (get_or s j 0) → t ≡ raised d (j + 1) s₀
  turn t v e b = e ∙ ap₂ (λ (r : List ℕ) (x : ℕ). set r j x) inv (b ∙ ap (bump d) raised-same) ∙ sym (raised-more d j s₀ (omega arith))

  pub raise-yes : (t : List ℕ) → t ≡ set s j (get_or s j 0 + 1) → d ≤ get_or s j 0 → t ≡ raised d (j + 1) s₀
  raise-yes t e le = turn t (get_or s j 0 + 1) e (omega (arith, bump-is d (get_or s j 0)))

  pub raise-no : (t : List ℕ) → t ≡ set s j (get_or s j 0) → get_or s j 0 < d → t ≡ raised d (j + 1) s₀
  raise-no t e lt = turn t (get_or s j 0) e (omega (arith, bump-is d (get_or s j 0)))

-- base on top of the permutation of m places that the last digits of k give
abbrev pub filled : ℕ → ℕ → ℕ → List ℕ
filled base m k = map (λ x. base + x) (perm_of m (k % fact m))

bump-add : (base q x : ℕ) → bump (base + q) (base + x) ≡ base + bump q x
bump-add base q x = omega (arith, bump-is (base + q) (base + x), bump-is q x)

bump-adds : (base q : ℕ) (xs : List ℕ) → map (λ x. base + x) (map (bump q) xs) ≡ map (bump (base + q)) (map (λ x. base + x) xs)
bump-adds base q [] = refl
bump-adds base q (x ∷ xs) = ap₂ ◌∷◌ (sym (bump-add base q x)) (bump-adds base q xs)

-- one place more: the next digit goes in front, and the rest makes room for it
filled-suc : (base m k : ℕ)
    → filled base (suc m) k ≡ (base + k / fact m % suc m) ∷ map (bump (base + k / fact m % suc m)) (filled base m k)
unfolding perm_of
filled-suc base m k =
    let e : k % fact (suc m) ≡ k / fact m % suc m * fact m + k % fact m = mod-mul k (zero-lt-suc m) (fact-pos m) in
    let small : k % fact m < fact m = mod-lt k (fact-pos m) in
    let q : k % fact (suc m) / fact m ≡ k / fact m % suc m = ap (λ (r : ℕ). r / fact m) e ∙ digits_div (k / fact m % suc m) small in
    let r : k % fact (suc m) % fact m ≡ k % fact m = ap (λ (r : ℕ). r % fact m) e ∙ digits_mod (k / fact m % suc m) small in
    ap₂ (λ (q r : ℕ). (base + q) ∷ map (λ x. base + x) (map (bump q) (perm_of m r))) q r
    ∙ ap (◌∷◌ (base + k / fact m % suc m)) (bump-adds base (k / fact m % suc m) (perm_of m (k % fact m)))

-- a part to the end, `&mut t[b..]`: all of it, and nothing after it
part-all : (b : ℕ) (t : List ℕ) → take (length t - b) (drop b t) ≡ drop b t
part-all b t = take_all (length t - b) (drop b t) (le_of_eq (length-drop b t))

part-after : (b : ℕ) (t : List ℕ) → drop (length t - b) (drop b t) ≡ []
part-after b t = drop_of_length-le (drop b t) (le_of_eq (length-drop b t))

-- a store at a, and then ys from a + 1 on
put-tail : (a d : ℕ) (s ys : List ℕ) → a < length s → drop a (put_mid (a + 1) (length (set s a d) - (a + 1)) (set s a d) ys) ≡ d ∷ ys
put-tail a d s ys h =
    let t = set s a d in
    let after = drop (length t - (a + 1)) (drop (a + 1) t) in
    let e : take (a + 1) t ≡ take a s ++ (d ∷ []) = ap (λ (k : ℕ). take k t) (add-one a) ∙ take-suc-set s a d h in
    ap (λ (l : List ℕ). drop a (l ++ (ys ++ after))) e
    ∙ ap (drop a) (append_assoc (take a s) (d ∷ []) (ys ++ after))
    ∙ drop_at (take a s) (d ∷ (ys ++ after)) a (length-take-le a s (omega arith))
    ∙ ap (λ (l : List ℕ). d ∷ (ys ++ l)) (part-after (a + 1) t)
    ∙ ap (◌∷◌ d) (append-nil ys)

pub fill_start : (base index : ℕ) (s : List ℕ)
    → (index ≡ index / fact (length s - length s)) × (drop (length s) s ≡ filled base (length s - length s) index)
unfolding perm_of
fill_start base index s = rw sub_self (sym (div-one index), drop-length s)

pub fill_end : (base n index i : ℕ) (s : List ℕ) → i ≤ 0 → index < fact n → drop i s ≡ filled base (n - i) index → s ≡ map (λ x. base + x) (perm_of n index)
fill_end base n index zero s h k e =
    e ∙ ap (λ (m : ℕ). filled base m index) (sub-zero n) ∙ ap (λ (r : ℕ). map (λ x. base + x) (perm_of n r)) (mod-eq_of_lt k)
fill_end base n index (suc i) s h k e = absurd (not-suc-le-zero h)

-- one turn of `fill_perm_slice`
module _ (base n index rest i : ℕ) (s : List ℕ) (pos : 0 < i) (top : i ≤ n) (len : length s ≡ n) (digits : rest ≡ index / fact (n - i))
    (held : drop i s ≡ filled base (n - i) index) where
  suc-is : n - (i - 1) ≡ suc (n - i)
  suc-is = omega arith

  lent : (d : ℕ) → take (length (set s (i - 1) d) - (i - 1 + 1)) (drop (i - 1 + 1) (set s (i - 1) d)) ≡ filled base (n - i) index
  lent d =
      let e : i - 1 + 1 ≡ i = omega arith in
      part-all (i - 1 + 1) (set s (i - 1) d) ∙ drop-set-lt (i - 1 + 1) s (i - 1) d (omega arith) ∙ ap (λ (k : ℕ). drop k s) e ∙ held

  pub fill-small : (d : ℕ) → base ≤ 200 → n ≤ 12 → Under 255 (take (length (set s (i - 1) d) - (i - 1 + 1)) (drop (i - 1 + 1) (set s (i - 1) d)))
  fill-small d b l =
      rw (lent d)
      (under-map (n - i) 255 (λ x. base + x) (λ x lt. omega arith) (perm_of (n - i) (index % fact (n - i))) (perm_of-perm (n - i) (index % fact (n - i)) (mod-lt index (fact-pos (n - i)))).small)

  pub fill-digit : rest % (n - (i - 1)) < n - (i - 1)
  fill-digit = mod-lt rest (omega arith)

  pub fill-turn : (ys : List ℕ)
      → (let d = base + rest % (n - (i - 1)) in
      let t = set s (i - 1) d in
      ys ≡ map (bump d) (take (length t - (i - 1 + 1)) (drop (i - 1 + 1) t))
      → (i - 1 ≤ n)
      × (length (put_mid (i - 1 + 1) (length t - (i - 1 + 1)) t ys) ≡ n)
      × (rest / (n - (i - 1)) ≡ index / fact (n - (i - 1)))
      × (drop (i - 1) (put_mid (i - 1 + 1) (length t - (i - 1 + 1)) t ys) ≡ filled base (n - (i - 1)) index))
  fill-turn ys e =
      let m = n - i in
      let d = base + rest % (n - (i - 1)) in
      let t = set s (i - 1) d in
      let q : d ≡ base + index / fact m % suc m = ap₂ (λ (r k : ℕ). base + r % k) digits suc-is in
      let y : ys ≡ map (bump d) (filled base m index) = e ∙ ap (map (bump d)) (lent d) in (
        omega arith,
        same_len_mid (i - 1 + 1) (length t - (i - 1 + 1)) t ys (ap length e ∙ length-map (take (length t - (i - 1 + 1)) (drop (i - 1 + 1) t)) (bump d))
            ∙ length-set s (i - 1) d ∙ len,
        ap₂ ◌/◌ digits suc-is ∙ div-div-eq-div-mul index (fact m) (suc m)
            ∙ ap (λ (k : ℕ). index / k) (mul_comm (fact m) (suc m)) ∙ ap (λ (k : ℕ). index / fact k) (sym suc-is),
        put-tail (i - 1) d s ys (omega arith)
            ∙ ap₂ (λ (x : ℕ) (l : List ℕ). x ∷ l) q (y ∙ ap (λ (x : ℕ). map (bump x) (filled base m index)) q)
            ∙ sym (filled-suc base m index) ∙ ap (λ (k : ℕ). filled base k index) (sym suc-is),
      )

-- on top of 0 a permutation is as it is
pub add-zeros : (xs : List ℕ) → map (λ x. 0 + x) xs ≡ xs
add-zeros [] = refl
add-zeros (x ∷ xs) = ap₂ ◌∷◌ (zero-add x) (add-zeros xs)
