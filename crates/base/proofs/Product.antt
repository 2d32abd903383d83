-- The product of cubes, one list at a time, over any length and modulus: it is associative, the solved cube is its unit, it keeps the range.
-- Assumes nothing.
use Prim.Native.Nat.{ℕ, zero, suc, ◌+◌, ◌%◌, ◌≤◌, ◌<◌}
use mathlib.Core.Path.{◌≡◌, refl, sym, ap, ap₂, ◌∙◌}
use mathlib.Core.List.{List, [], ◌∷◌, map}
use lib.ListN.{length, get_or, drop, replicate, drop_of_length-le, length-map, get_or-replicate}
use lib.Seq.{drop-cons, ext_get_or}
use native.Mathlib.Nat.{not-suc-le-zero, le_of_suc-le-suc, mod-lt, mod-eq_of_lt, mod-add-mod, add-mod-mod, add_assoc, add-zero, zero-add}
use native.Mathlib.Omega.{arith}
use Rattle.base.specs.Lists.{Under, Sized, range, total}
use Rattle.base.specs.Perm.{Perm}
use Rattle.base.specs.Product.{compose, twisted}
use Rattle.base.proofs.Parity.{length-range, total-places}
use Rattle.base.proofs.Tests.{under_at, under-map}

-- what stands at a place

pub map_at : (f : ℕ → ℕ) (l : List ℕ) (i : ℕ) → i < length l → get_or (map f l) i 0 ≡ f (get_or l i 0)
map_at f [] i h = absurd (not-suc-le-zero h)
map_at f (x ∷ l) zero h = refl
map_at f (x ∷ l) (suc i) h = map_at f l i (le_of_suc-le-suc h)

pub twisted-at : (k : ℕ) (t q s : List ℕ) (i : ℕ) → i < length q → length s ≡ length q → get_or (twisted k t q s) i 0 ≡ (get_or t (get_or q i 0) 0 + get_or s i 0) % k
unfolding twisted
twisted-at k t [] s i h e = absurd (not-suc-le-zero h)
twisted-at k t (j ∷ q) [] i h e = absurd (omega arith)
twisted-at k t (j ∷ q) (x ∷ s) zero h e = refl
twisted-at k t (j ∷ q) (x ∷ s) (suc i) h e = twisted-at k t q s i (le_of_suc-le-suc h) (omega arith)

pub twisted-length : (k : ℕ) (t q s : List ℕ) → length s ≡ length q → length (twisted k t q s) ≡ length q
unfolding twisted
twisted-length k t [] s e = refl
twisted-length k t (i ∷ q) [] e = absurd (omega arith)
twisted-length k t (i ∷ q) (x ∷ s) e = ap suc (twisted-length k t q s (omega arith))

-- associative

pub compose-assoc : {n k j : ℕ} (a : List ℕ) {b c : List ℕ} → Sized n k b → Sized j n c → compose (compose a b) c ≡ compose a (compose b c)
compose-assoc {n} a {b} {c} x y = go c y.small
  where
    go : (c : List ℕ) → Under n c → compose (compose a b) c ≡ compose a (compose b c)
    go [] h = refl
    go (i ∷ c) h = ap₂ ◌∷◌ (map_at (λ i. get_or a i 0) b i (omega (arith, x.size, h.0))) (go c h.1)

pub twisted-assoc : {n k m j : ℕ} (t : List ℕ) {b s c : List ℕ} (r : List ℕ) → Sized n k b → Sized n m s → Sized j n c → twisted m (twisted m t b s) c r ≡ twisted m t (compose b c) (twisted m s c r)
unfolding twisted
twisted-assoc {n} {k} {m} t {b} {s} {c} r x y z = go c r z.small
  where
    go : (c r : List ℕ) → Under n c → twisted m (twisted m t b s) c r ≡ twisted m t (compose b c) (twisted m s c r)
    go [] r h = refl
    go (i ∷ c) [] h = refl
    go (i ∷ c) (v ∷ r) h =
        ap₂ ◌∷◌
        (ap (λ (w : ℕ). (w + v) % m) (twisted-at m t b s i (omega (arith, x.size, h.0)) (y.size ∙ sym x.size))
        ∙ mod-add-mod (get_or t (get_or b i 0) 0 + get_or s i 0) m v
        ∙ ap (λ (w : ℕ). w % m) (add_assoc (get_or t (get_or b i 0) 0) (get_or s i 0) v)
        ∙ sym (add-mod-mod (get_or t (get_or b i 0) 0) (get_or s i 0 + v) m))
        (go c r h.1)

-- the unit

pub compose-unit : {n k : ℕ} {p : List ℕ} → Sized n k p → compose p (range 0 n) ≡ p
unfolding range
compose-unit {n} {k} {p} x = go 0 n (omega (arith, x.size))
  where
    go : (i j : ℕ) → i + j ≡ length p → compose p (range i j) ≡ drop i p
    go i zero e = sym (drop_of_length-le p {i = i} (omega arith))
    go i (suc j) e = ap (λ (l : List ℕ). get_or p i 0 ∷ l) (go (suc i) j (omega arith)) ∙ sym (drop-cons p i 0 (omega arith))

pub twisted-unit : {n k : ℕ} {t : List ℕ} → Sized n k t → twisted k t (range 0 n) (replicate n 0) ≡ t
unfolding range twisted
twisted-unit {n} {k} {t} x = go 0 n (omega (arith, x.size))
  where
    go : (i j : ℕ) → i + j ≡ length t → twisted k t (range i j) (replicate j 0) ≡ drop i t
    go i zero e = sym (drop_of_length-le t {i = i} (omega arith))
    go i (suc j) e =
        let s : i < length t = omega arith in
        ap₂ ◌∷◌ (ap (λ (w : ℕ). w % k) (add-zero (get_or t i 0)) ∙ mod-eq_of_lt (under_at k t i x.small s)) (go (suc i) j (omega arith)) ∙ sym (drop-cons t i 0 s)

pub range_at : (m n i : ℕ) → i < n → get_or (range m n) i 0 ≡ m + i
unfolding range
range_at m zero i h = absurd (not-suc-le-zero h)
range_at m (suc n) zero h = sym (add-zero m)
range_at m (suc n) (suc i) h = range_at (suc m) n i (le_of_suc-le-suc h) ∙ omega arith

-- a list that is given place by place
pub map-range-at : (f : ℕ → ℕ) (n i : ℕ) → i < n → get_or (map f (range 0 n)) i 0 ≡ f i
map-range-at f n i h = map_at f (range 0 n) i (omega (arith, length-range 0 n)) ∙ ap f (range_at 0 n i h ∙ zero-add i)

pub map-range-length : (f : ℕ → ℕ) (n : ℕ) → length (map f (range 0 n)) ≡ n
map-range-length f n = length-map (range 0 n) f ∙ length-range 0 n

pub map-range-is : (f : ℕ → ℕ) (n : ℕ) (xs : List ℕ) → length xs ≡ n → ((i : ℕ) → i < n → f i ≡ get_or xs i 0) → map f (range 0 n) ≡ xs
map-range-is f n xs l h =
    ext_get_or 0 (map f (range 0 n)) xs (map-range-length f n ∙ sym l)
    (λ i k. let b : i < n = omega (arith, map-range-length f n) in map-range-at f n i b ∙ h i b)

pub range-under : (m n k : ℕ) → m + n ≤ k → Under k (range m n)
unfolding range
range-under m zero k h = tt
range-under m (suc n) k h = (omega arith, range-under (suc m) n k (omega arith))

pub map-range-under : (f : ℕ → ℕ) (n k : ℕ) → ((i : ℕ) → i < n → f i < k) → Under k (map f (range 0 n))
map-range-under f n k h = under-map n k f h (range 0 n) (range-under 0 n n (omega arith))

pub unit-compose : (n : ℕ) (q : List ℕ) → Under n q → compose (range 0 n) q ≡ q
unit-compose n [] h = refl
unit-compose n (i ∷ q) h = ap₂ ◌∷◌ (range_at 0 n i h.0 ∙ zero-add i) (unit-compose n q h.1)

pub unit-twisted : (n k : ℕ) (q s : List ℕ) → length s ≡ length q → Under n q → Under k s → twisted k (replicate n 0) q s ≡ s
unfolding twisted
unit-twisted n k [] [] e h u = refl
unit-twisted n k [] (x ∷ s) e h u = absurd (omega arith)
unit-twisted n k (i ∷ q) [] e h u = absurd (omega arith)
unit-twisted n k (i ∷ q) (x ∷ s) e h u =
    ap₂ ◌∷◌ (ap (λ (w : ℕ). (w + x) % k) (get_or-replicate n i 0 0 h.0) ∙ ap (λ (w : ℕ). w % k) (zero-add x) ∙ mod-eq_of_lt u.0)
    (unit-twisted n k q s (omega arith) h.1 u.1)

-- the range

pub compose-sized : {n k j : ℕ} {p q : List ℕ} → Sized n k p → Sized j n q → Sized j k (compose p q)
compose-sized {n} {k} {j} {p} {q} a b = record { size = length-map q (λ i. get_or p i 0) ∙ b.size; small = go q b.small }
  where
    go : (q : List ℕ) → Under n q → Under k (compose p q)
    go [] h = tt
    go (i ∷ q) h = (under_at k p i a.small (omega (arith, h.0, a.size)), go q h.1)

pub twisted-sized : {n j k : ℕ} (t : List ℕ) {q s : List ℕ} → 0 < k → Sized j n q → Sized j k s → Sized j k (twisted k t q s)
unfolding twisted
twisted-sized {n} {j} {k} t {q} {s} h a b = let r = go q s (b.size ∙ sym a.size) in record { size = r.size ∙ a.size; small = r.small }
  where
    go : (q s : List ℕ) → length s ≡ length q → Sized (length q) k (twisted k t q s)
    go [] s e = record { size = refl; small = tt }
    go (i ∷ q) [] e = absurd (omega arith)
    go (i ∷ q) (x ∷ s) e = let r = go q s (omega arith) in record { size = ap suc r.size; small = (mod-lt (get_or t i 0 + x) h, r.small) }

-- the sum of g over a product, modulo k, is the sum of the sums, where g takes sums modulo k to sums

mod-sum : (k x u y v : ℕ) → x % k ≡ u % k → y % k ≡ v % k → (x + y) % k ≡ (u + v) % k
mod-sum k x u y v p q =
    sym (mod-add-mod x k y) ∙ ap (λ (w : ℕ). (w + y) % k) p ∙ mod-add-mod u k y ∙ sym (add-mod-mod u y k) ∙ ap (λ (w : ℕ). (u + w) % k) q ∙ add-mod-mod u v k

module _ (k : ℕ) (g : ℕ → ℕ) (adds : (x y : ℕ) → x < k → y < k → g ((x + y) % k) % k ≡ (g x + g y) % k) where
  pub total-twisted : {n : ℕ} {t q s : List ℕ} → Sized n k t → Perm n q → Sized n k s → total g (twisted k t q s) % k ≡ (total g t + total g s) % k
  unfolding twisted
  total-twisted {n} {t} {q} {s} a b c =
      go q s (b.size ∙ sym c.size) b.small c.small
      ∙ ap (λ (w : ℕ). (w + total g s) % k) (total-places g t b a.size)
    where
      go : (q s : List ℕ) → length q ≡ length s → Under n q → Under k s → total g (twisted k t q s) % k ≡ (total (λ i. g (get_or t i 0)) q + total g s) % k
      go [] [] e h u = refl
      go [] (x ∷ s) e h u = absurd (omega arith)
      go (i ∷ q) [] e h u = absurd (omega arith)
      go (i ∷ q) (x ∷ s) e h u =
          let y = get_or t i 0 in
          let A = total (λ i. g (get_or t i 0)) q in
          mod-sum k (g ((y + x) % k)) (g y + g x) (total g (twisted k t q s)) (A + total g s) (adds y x (under_at k t i a.small (omega (arith, h.0, a.size))) u.0) (go q s (omega arith) h.1 u.1)
          ∙ ap (λ (w : ℕ). w % k) (omega arith)
