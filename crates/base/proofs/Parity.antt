-- The parity of the swaps is that of the inversions, and the parity of a product is the sum of the parities. Over any length.
-- Assumes nothing.
use mathlib.Core.Path.{◌≡◌, refl, sym, ap, ap₂, ◌∙◌, subst}
use mathlib.Core.Bool.{Bool, true, false}
use mathlib.Core.Logic.{◌⊎◌, inl, inr, ⊎_elim}
use mathlib.Core.List.{List, [], ◌∷◌, map}
use Prim.Native.Nat.{ℕ, zero, suc, ◌+◌, ◌-◌, ◌%◌, ◌≤◌, ◌<◌, min, max}
use native.Mathlib.Nat.{suc_inj, suc-ne-zero, min_comm, max_comm, min-eq_left, min-eq_right, max-eq_left, max-eq_right, le_of_lt}
use native.Mathlib.Omega.{arith}
use lib.Dec.{eqb}
use lib.ListN.{length, get_or, length-map}
use borrow.Author.Tests.{eqb-true}
use Rattle.base.specs.Lists.{pick, bit, range, total}
use Rattle.base.specs.Parity.{put, swaps_from, swaps}
use Rattle.base.specs.Perm.{less, same, below, count, Perm}
use Rattle.base.specs.Product.{compose}
use Rattle.base.proofs.Perm.{less-is, less-cut, same-is, same-cut, total-map, below_suc, Fills, fills-perm, perm-fills}

-- pairs of places that stand in the wrong order
abbrev pub inversions : List ℕ → ℕ
inversions [] = 0
inversions (x ∷ xs) = below x xs + inversions xs

-- ---- the swaps have the parity of the inversions

pub put-cut : (i x y : ℕ) (ys : List ℕ) → ((i ≡ y) × (same i y ≡ 1) × (put i x (y ∷ ys) ≡ x ∷ ys)) ⊎ ((same i y ≡ 0) × (put i x (y ∷ ys) ≡ y ∷ put i x ys))
unfolding same put
put-cut i x y ys = go (eqb i y) refl
  where
    go : (b : Bool) → eqb i y ≡ b → ((i ≡ y) × (bit b ≡ 1) × (pick b (x ∷ ys) (y ∷ put i x ys) ≡ x ∷ ys)) ⊎ ((bit b ≡ 0) × (pick b (x ∷ ys) (y ∷ put i x ys) ≡ y ∷ put i x ys))
    go true e = inl (eqb-true i y e, refl, refl)
    go false e = inr (refl, refl)

total-put : (g : ℕ → ℕ) (i x : ℕ) (ys : List ℕ) → 0 < count i ys → total g (put i x ys) + g i ≡ total g ys + g x
total-put g i x [] h = omega arith
total-put g i x (y ∷ ys) h =
    ⊎_elim (λ u. omega (arith, ap (total g) u.2, ap g u.0))
    (λ u. omega (arith, ap (total g) u.1, total-put g i x ys (omega arith)))
    (put-cut i x y ys)

length-put : (i x : ℕ) (ys : List ℕ) → length (put i x ys) ≡ length ys
unfolding put
length-put i x [] = refl
length-put i x (y ∷ ys) = go (eqb i y) (length-put i x ys)
  where
    go : (b : Bool) → length (put i x ys) ≡ length ys → length (pick b (x ∷ ys) (y ∷ put i x ys)) ≡ suc (length ys)
    go true e = refl
    go false e = ap suc e

pub put-none : (i x : ℕ) (ys : List ℕ) → count i ys ≡ 0 → put i x ys ≡ ys
unfolding put
put-none i x [] e = refl
put-none i x (y ∷ ys) e =
    ⊎_elim (λ u. absurd (suc-ne-zero 0 (omega arith))) (λ u. u.1 ∙ ap (◌∷◌ y) (put-none i x ys (omega arith))) (put-cut i x y ys)

put-inversions : (i x : ℕ) (ys : List ℕ) → count i ys ≡ 1 → below i ys ≡ 0 → count x ys ≡ 0 → i < x
    → (below x ys + inversions ys) % 2 ≡ (1 + inversions (put i x ys)) % 2
put-inversions i x [] c b n h = omega arith
put-inversions i x (y ∷ ys) c b n h =
    ⊎_elim (λ u. omega (arith, ap inversions u.2, ap (λ (k : ℕ). below k ys) u.0, less-is y x))
    (λ u.
    let e = ap inversions u.1 in
    let p = total-put (λ z. less z y) i x ys (omega arith) in
    let r = put-inversions i x ys (omega arith) (omega arith) (omega arith) h in
    let l : less i y ≡ 1 = omega (arith, less-is i y, less-is y i, same-is i y) in
    let k : less y x + less x y ≡ 1 = omega (arith, less-is y x, less-is x y, same-is x y) in
    omega arith)
    (put-cut i x y ys)

-- one place of the loop; `again` is what holds of the places after it
module _ (n i x : ℕ) (ys : List ℕ) (again : (zs : List ℕ) → length zs ≡ n → Fills (suc i) n zs → swaps_from n (suc i) zs % 2 ≡ inversions zs % 2)
    (l : length ys ≡ n) (f : Fills i (suc n) (x ∷ ys)) where
  one : count i (x ∷ ys) ≡ 1
  one = omega (arith, below_suc i (x ∷ ys), f i, f (suc i))

  fixed : i ≡ x → same i x ≡ 1 → (min (1 - same i x) (count i ys) + swaps_from n (suc i) (put i x ys)) % 2 ≡ (below x ys + inversions ys) % 2
  fixed e s =
      let none : count i ys ≡ 0 = omega (arith, one) in
      let g : Fills (suc i) n ys = λ d. omega (arith, f d, less-is x d) in
      let r : swaps_from n (suc i) (put i x ys) % 2 ≡ inversions ys % 2 = ap (λ (zs : List ℕ). swaps_from n (suc i) zs % 2) (put-none i x ys none) ∙ again ys l g in
      let b : below x ys ≡ 0 = omega (arith, f i, ap (λ (k : ℕ). below k ys) e) in
      omega arith

  moved : same i x ≡ 0 → (min (1 - same i x) (count i ys) + swaps_from n (suc i) (put i x ys)) % 2 ≡ (below x ys + inversions ys) % 2
  moved s =
      let c : count i ys ≡ 1 = omega (arith, one) in
      let b : below i ys ≡ 0 = omega (arith, f i) in
      let z : less x i ≡ 0 = omega (arith, f i) in
      let lt : i < x = omega (arith, less-is x i, same-is i x) in
      let t : same x x ≡ 1 = omega (arith, same-is x x) in
      let none : count x ys ≡ 0 = omega (arith, below_suc x (x ∷ ys), f x, f (suc x)) in
      let g : Fills (suc i) n (put i x ys) = λ d. omega (arith, f d, total-put (λ z. less z d) i x ys (omega arith), less-is i d) in
      omega (arith, again (put i x ys) (length-put i x ys ∙ l) g, put-inversions i x ys c b none lt)

  place : (min (1 - same i x) (count i ys) + swaps_from n (suc i) (put i x ys)) % 2 ≡ (below x ys + inversions ys) % 2
  place = ⊎_elim (λ u. fixed u.0 u.1) moved (same-cut i x)

swaps-inversions : (n i : ℕ) (xs : List ℕ) → length xs ≡ n → Fills i n xs → swaps_from n i xs % 2 ≡ inversions xs % 2
unfolding swaps_from
swaps-inversions zero i [] l f = refl
swaps-inversions zero i (x ∷ ys) l f = absurd (suc-ne-zero (length ys) l)
swaps-inversions (suc n) i [] l f = absurd (suc-ne-zero n (sym l))
swaps-inversions (suc n) i (x ∷ ys) l f = place n i x ys (λ zs. swaps-inversions n (suc i) zs) (suc_inj l) f

-- ---- a sum over all pairs of a permutation is the same for every permutation, where the summand is symmetric

abbrev pairs : (ℕ → ℕ → ℕ) → List ℕ → ℕ
pairs h [] = 0
pairs h (x ∷ xs) = total (h x) xs + pairs h xs

-- without the first a
remove : ℕ → List ℕ → List ℕ
remove a [] = []
remove a (y ∷ ys) = pick (eqb a y) ys (y ∷ remove a ys)

remove-cut : (a y : ℕ) (ys : List ℕ) → ((a ≡ y) × (remove a (y ∷ ys) ≡ ys)) ⊎ ((same a y ≡ 0) × (remove a (y ∷ ys) ≡ y ∷ remove a ys))
unfolding same remove
remove-cut a y ys = go (eqb a y) refl
  where
    go : (b : Bool) → eqb a y ≡ b → ((a ≡ y) × (pick b ys (y ∷ remove a ys) ≡ ys)) ⊎ ((bit b ≡ 0) × (pick b ys (y ∷ remove a ys) ≡ y ∷ remove a ys))
    go true e = inl (eqb-true a y e, refl)
    go false e = inr (refl, refl)

total-remove : (g : ℕ → ℕ) (a : ℕ) (xs : List ℕ) → 0 < count a xs → total g xs ≡ g a + total g (remove a xs)
total-remove g a [] h = omega arith
total-remove g a (y ∷ ys) h =
    ⊎_elim (λ u. omega (arith, ap (total g) u.1, ap g u.0))
    (λ u. omega (arith, ap (total g) u.1, total-remove g a ys (omega arith)))
    (remove-cut a y ys)

length-remove : (a : ℕ) (xs : List ℕ) → 0 < count a xs → length xs ≡ suc (length (remove a xs))
length-remove a [] h = omega arith
length-remove a (y ∷ ys) h =
    ⊎_elim (λ u. ap suc (sym (ap length u.1)))
    (λ u. omega (arith, ap length u.1, length-remove a ys (omega arith)))
    (remove-cut a y ys)

pairs-remove : (h : ℕ → ℕ → ℕ) → ((a b : ℕ) → h a b ≡ h b a) → (a : ℕ) (xs : List ℕ) → 0 < count a xs
    → pairs h xs ≡ total (h a) (remove a xs) + pairs h (remove a xs)
pairs-remove h s a [] c = omega arith
pairs-remove h s a (y ∷ ys) c =
    ⊎_elim (λ u. omega (arith, ap (total (h a)) u.1, ap (pairs h) u.1, ap (λ (k : ℕ). total (h k) ys) u.0))
    (λ u.
    let p : 0 < count a ys = omega arith in
    omega (arith, ap (total (h a)) u.1, ap (pairs h) u.1, total-remove (h y) a ys p, pairs-remove h s a ys p, s a y))
    (remove-cut a y ys)

-- n - 1 down to 0
abbrev down : ℕ → List ℕ
down zero = []
down (suc n) = n ∷ down n

module _ (n : ℕ) (xs : List ℕ) (l : length xs ≡ suc n) (f : Fills 0 (suc n) xs) where
  last-in : 0 < count n xs
  last-in = omega (arith, below_suc n xs, f n, f (suc n))

  last-length : length (remove n xs) ≡ n
  last-length = omega (arith, length-remove n xs last-in)

  last-fills : Fills 0 n (remove n xs)
  last-fills d = omega (arith, f d, total-remove (λ z. less z d) n xs last-in, less-is n d)

total-all : (g : ℕ → ℕ) (n : ℕ) (xs : List ℕ) → length xs ≡ n → Fills 0 n xs → total g xs ≡ total g (down n)
total-all g zero [] l f = refl
total-all g zero (x ∷ xs) l f = absurd (suc-ne-zero (length xs) l)
total-all g (suc n) xs l f = total-remove g n xs (last-in n xs l f) ∙ ap (λ (k : ℕ). g n + k) (total-all g n (remove n xs) (last-length n xs l f) (last-fills n xs l f))

pairs-all : (h : ℕ → ℕ → ℕ) → ((a b : ℕ) → h a b ≡ h b a) → (n : ℕ) (xs : List ℕ) → length xs ≡ n → Fills 0 n xs → pairs h xs ≡ pairs h (down n)
pairs-all h s zero [] l f = refl
pairs-all h s zero (x ∷ xs) l f = absurd (suc-ne-zero (length xs) l)
pairs-all h s (suc n) xs l f =
    pairs-remove h s n xs (last-in n xs l f)
    ∙ ap₂ ◌+◌ (total-all (h n) n (remove n xs) (last-length n xs l f) (last-fills n xs l f)) (pairs-all h s n (remove n xs) (last-length n xs l f) (last-fills n xs l f))

-- ---- the permutation that moves nothing

pub length-range : (i n : ℕ) → length (range i n) ≡ n
unfolding range
length-range i zero = refl
length-range i (suc n) = ap suc (length-range (suc i) n)

range-fills : (i n : ℕ) → Fills i n (range i n)
unfolding range
range-fills i zero d = omega arith
range-fills i (suc n) d = omega (arith, range-fills (suc i) n d, less-is i d)

range-inversions : (i n : ℕ) → inversions (range i n) ≡ 0
unfolding range
range-inversions i zero = refl
range-inversions i (suc n) = omega (arith, range-inversions (suc i) n, range-fills (suc i) n i)

get_or-range : (p : List ℕ) → map (λ k. get_or p k 0) (range 0 (length p)) ≡ p
unfolding range
get_or-range [] = refl
get_or-range (x ∷ xs) = ap (◌∷◌ x) (later 0 (length xs) ∙ get_or-range xs)
  where
    later : (i n : ℕ) → map (λ k. get_or (x ∷ xs) k 0) (range (suc i) n) ≡ map (λ k. get_or xs k 0) (range i n)
    later i zero = refl
    later i (suc n) = ap (◌∷◌ (get_or xs i 0)) (later (suc i) n)

-- a sum over the places that a permutation names is the sum over all places
pub total-places : (g : ℕ → ℕ) (t : List ℕ) {n : ℕ} {q : List ℕ} → Perm n q → length t ≡ n → total (λ i. g (get_or t i 0)) q ≡ total g t
total-places g t {n} {q} h l =
    total-all (λ i. g (get_or t i 0)) n q h.size (perm-fills h)
    ∙ sym (total-all (λ i. g (get_or t i 0)) n (range 0 n) (length-range 0 n) (range-fills 0 n))
    ∙ sym (total-map g (λ i. get_or t i 0) (range 0 n))
    ∙ ap (total g) (ap (λ (k : ℕ). map (λ i. get_or t i 0) (range 0 k)) (sym l) ∙ get_or-range t)

-- ---- the product

-- Where P takes the pair a, b to values that differ, its two values are in the wrong order exactly where either the pair is or P turns the pair round,
-- and whether P turns it round is symmetric in a and b.
module _ (P : ℕ → ℕ) where
  abbrev turns : ℕ → ℕ → ℕ
  turns a b = less (P (max a b)) (P (min a b))

  turns-sym : (a b : ℕ) → turns a b ≡ turns b a
  turns-sym a b = ap₂ (λ (x y : ℕ). less (P x) (P y)) (max_comm a b) (min_comm a b)

  abbrev wrong : ℕ → ℕ → ℕ
  wrong a b = less (P b) (P a)

  pair-parity : (a b : ℕ) → same (P a) (P b) ≡ 0 → (wrong a b + less b a) % 2 ≡ turns a b % 2
  pair-parity a b s =
      let w : less (P b) (P a) + less (P a) (P b) ≡ 1 = omega (arith, less-is (P b) (P a), less-is (P a) (P b), same-is (P a) (P b)) in
      ⊎_elim (λ u. omega (arith, ap₂ (λ (x y : ℕ). less (P x) (P y)) (max-eq_left (le_of_lt u.0)) (min-eq_right (le_of_lt u.0))))
      (λ u. omega (arith, ap₂ (λ (x y : ℕ). less (P x) (P y)) (max-eq_right u.0) (min-eq_left u.0)))
      (less-cut b a)

  row-parity : (x : ℕ) (ys : List ℕ) → count (P x) (map P ys) ≡ 0 → (total (wrong x) ys + below x ys) % 2 ≡ total (turns x) ys % 2
  row-parity x [] c = refl
  row-parity x (y ∷ ys) c = omega (arith, pair-parity x y (omega arith), row-parity x ys (omega arith))

  pairs-parity : (xs : List ℕ) → ((a : ℕ) → count a (map P xs) ≤ 1) → (inversions (map P xs) + inversions xs) % 2 ≡ pairs turns xs % 2
  pairs-parity [] o = refl
  pairs-parity (x ∷ xs) o =
      let t : same (P x) (P x) ≡ 1 = omega (arith, same-is (P x) (P x)) in
      let none : count (P x) (map P xs) ≡ 0 = omega (arith, o (P x)) in
      omega
      (arith, total-map (λ z. less z (P x)) P xs, row-parity x xs none, pairs-parity xs (λ a. omega (arith, o a)))

pub swaps-parity : {n : ℕ} {xs : List ℕ} → Perm n xs → swaps xs % 2 ≡ inversions xs % 2
swaps-parity {n} {xs} h = subst (λ (k : ℕ). swaps_from k 0 xs % 2 ≡ inversions xs % 2) (sym h.size) (swaps-inversions n 0 xs h.size (perm-fills h))

module _ {n : ℕ} {p q : List ℕ} (hp : Perm n p) (hq : Perm n q) where
  self : map (λ i. get_or p i 0) (range 0 n) ≡ p
  self = ap (λ (k : ℕ). map (λ i. get_or p i 0) (range 0 k)) (sym hp.size) ∙ get_or-range p

  pub compose-perm : Perm n (compose p q)
  compose-perm = fills-perm (length-map q (λ i. get_or p i 0) ∙ hq.size) full
    where
      full : Fills 0 n (compose p q)
      full d =
          let g : ℕ → ℕ = λ a. less (get_or p a 0) d in
          total-map (λ z. less z d) (λ i. get_or p i 0) q ∙ total-all g n q hq.size (perm-fills hq)
          ∙ sym (total-map (λ z. less z d) (λ i. get_or p i 0) (range 0 n) ∙ total-all g n (range 0 n) (length-range 0 n) (range-fills 0 n))
          ∙ ap (below d) self ∙ perm-fills hp d

  pub inversions-compose : inversions (compose p q) % 2 ≡ (inversions p + inversions q) % 2
  inversions-compose =
      let P : ℕ → ℕ = λ i. get_or p i 0 in
      let all = pairs-all (turns P) (turns-sym P) n in
      let e : pairs (turns P) q ≡ pairs (turns P) (range 0 n) = all q hq.size (perm-fills hq) ∙ sym (all (range 0 n) (length-range 0 n) (range-fills 0 n)) in
      let a = pairs-parity P q compose-perm.once in
      let b = pairs-parity P (range 0 n) (λ a. subst (λ (l : List ℕ). count a l ≤ 1) (sym self) (hp.once a)) in
      omega (arith, range-inversions 0 n, ap inversions self)

  pub swaps-compose : swaps (compose p q) % 2 ≡ (swaps p + swaps q) % 2
  swaps-compose = omega (arith, swaps-parity compose-perm, swaps-parity hp, swaps-parity hq, inversions-compose)
