-- Painting letters at places: one letter more, and what stands where afterwards. Assumes nothing.
use mathlib.Core.Path.{◌≡◌, refl, ap, subst, ◌∙◌}
use mathlib.Core.List.{List, [], ◌∷◌}
use Prim.Native.Nat.{ℕ, zero, suc, ◌+◌, ◌*◌, ◌/◌, ◌%◌, ◌≤◌, ◌<◌}
use native.Mathlib.Nat.{not-suc-le-zero, le_of_suc-le-suc, mod-lt, one-mul, mul-le-mul_right, div-lt_iff_lt-mul}
use native.Mathlib.Numerals.{add-one}
use native.Mathlib.Omega.{arith}
use lib.Arith.{digits_lt}
use lib.ListN.{length, get_or, take, set, length-set}
use lib.Seq.{get_or-set_same, get_or-set_other}
use Rattle.base.specs.Lists.{Under}
use Rattle.base.specs.Perm.{count}
use Rattle.base.proofs.Perm.{same-is}
use Rattle.base.proofs.Tests.{under_at}
use Rattle.stickers.specs.Picture.{paint}

-- one letter more
paint-suc : (ps xs face : List ℕ) (k : ℕ) → k < length ps → k < length xs → paint (take (suc k) ps) (take (suc k) xs) face ≡ set (paint (take k ps) (take k xs) face) (get_or ps k 0) (get_or xs k 0)
unfolding paint
paint-suc [] xs face k h g = absurd (not-suc-le-zero h)
paint-suc (p ∷ ps) [] face k h g = absurd (not-suc-le-zero g)
paint-suc (p ∷ ps) (x ∷ xs) face zero h g = refl
paint-suc (p ∷ ps) (x ∷ xs) face (suc k) h g = paint-suc ps xs (set face p x) k (le_of_suc-le-suc h) (le_of_suc-le-suc g)

pub paint-more : (ps xs face : List ℕ) (k : ℕ) → k < length ps → k < length xs → paint (take (k + 1) ps) (take (k + 1) xs) face ≡ set (paint (take k ps) (take k xs) face) (get_or ps k 0) (get_or xs k 0)
paint-more ps xs face k h g = ap (λ (n : ℕ). paint (take n ps) (take n xs) face) (add-one k) ∙ paint-suc ps xs face k h g

pub paint-none : (face : List ℕ) → face ≡ paint [] [] face
unfolding paint
paint-none face = refl

pub paint-length : (ps xs face : List ℕ) → length (paint ps xs face) ≡ length face
unfolding paint
paint-length [] xs face = refl
paint-length (p ∷ ps) [] face = refl
paint-length (p ∷ ps) (x ∷ xs) face = paint-length ps xs (set face p x) ∙ length-set face p x

-- what is not painted over stays
pub paint-other : (ps xs face : List ℕ) (q : ℕ) → count q ps ≡ 0 → get_or (paint ps xs face) q 0 ≡ get_or face q 0
unfolding paint
paint-other [] xs face q e = refl
paint-other (p ∷ ps) [] face q e = refl
paint-other (p ∷ ps) (x ∷ xs) face q e =
    paint-other ps xs (set face p x) q (omega arith) ∙ get_or-set_other face p q x 0 (λ z. omega (arith, same-is q p))

-- where no place stands twice, each place shows its letter
pub paint-at : (ps xs face : List ℕ) (k : ℕ) → k < length ps → length xs ≡ length ps → Under (length face) ps → ((a : ℕ) → count a ps ≤ 1)
    → get_or (paint ps xs face) (get_or ps k 0) 0 ≡ get_or xs k 0
unfolding paint
paint-at [] xs face k h l u o = absurd (not-suc-le-zero h)
paint-at (p ∷ ps) [] face k h l u o = absurd (omega arith)
paint-at (p ∷ ps) (x ∷ xs) face zero h l u o =
    paint-other ps xs (set face p x) p (omega (arith, o p, same-is p p)) ∙ get_or-set_same face p x 0 u.0
paint-at (p ∷ ps) (x ∷ xs) face (suc k) h l u o =
    paint-at ps xs (set face p x) k (le_of_suc-le-suc h) (omega arith) (rw (length-set face p x) u.1) (λ a. omega (arith, o a))

-- where the letter at place k stands in the table, for pieces with n places each
module _ (n : ℕ) (p t : List ℕ) (k : ℕ) (h : (0 < n) × (length p * n ≡ 24) × (length t ≡ length p) × Under (length p) p × Under n t) (l : k < 24) where
  pub at_piece : k / n < length p
  at_piece = (div-lt_iff_lt-mul h.0).1 (omega (arith, h.1))

  pub few-places : n ≤ 24
  few-places = omega (arith, mul-le-mul_right {m = 1} {n = length p} n (omega (arith, at_piece)), one-mul n, h.1)

  pub turn-lt : get_or t (k / n) 0 < n
  turn-lt = under_at n t (k / n) h.4 (omega (arith, at_piece, h.2))

  pub letter-lt : (x : ℕ) → get_or p (k / n) 0 * n + x % n < 24
  letter-lt x = subst (λ (m : ℕ). get_or p (k / n) 0 * n + x % n < m) h.1 (digits_lt (under_at (length p) p (k / n) h.3 at_piece) (mod-lt x h.0))
