-- The seven coordinates: number to arrangement to number is the identity, and every number is below its count. Orientations are shown once over
-- the base, permutations once over the length, combinations by base's computed tests. Assumes nothing.
use mathlib.Core.Path.{◌≡◌, refl, ap, subst, ◌∙◌}
use mathlib.Core.Bool.{Bool, true, false}
use mathlib.Core.List.{List, map}
use Prim.Native.Nat.{ℕ, zero, suc, ◌+◌, ◌^◌, ◌<◌}
use native.Mathlib.Omega.{arith}
use lib.Dec.{eqb}
use lib.ListN.{length, take, replicate, length-map, length-append, length-take, length-drop}
use lib.Seq.{take_all, take_at}
use borrow.Author.Tests.{eq-eqb, eqb-true}
use Rattle.base.specs.Digits.{digits, orientation_of}
use Rattle.base.specs.Lists.{pick, in_range, Under}
use Rattle.base.specs.Perm.{below, fact, number, perm_of, no_repeat}
use Rattle.base.proofs.Combo.{combo-back, combo-small}
use Rattle.base.proofs.Digits.{under-append, orientation-sized, orientation-number, number-below}
use Rattle.base.proofs.Perm.{add-mono, same-is, number_lt, number-map, length-perm_of, number-perm_of, perm_of-perm}
use Rattle.base.proofs.Tests.{in_range-under, under-in_range, under-map, under_more, once-no_repeat, no_repeat-map}
use Rattle.numbering.specs.Coordinates.{ud_places, e_places, e_combo_of, ud_ep_of, e_ep_of}
use Rattle.numbering.specs.Kinds.{Numbered, co, eo, e_combo, cp, ud_ep, e_ep, ep}

-- ---- what it means that there is no refusal

pub one-test : (p : Bool) → pick p 0 6 ≡ zero → p ≡ true
one-test true e = refl
one-test false e = absurd (omega arith)

pub two-tests : (p q : Bool) (n : ℕ) → pick p (pick q 0 6) (suc n) ≡ zero → (p ≡ true) × (q ≡ true)
two-tests true true n e = (refl, refl)
two-tests true false n e = absurd (omega arith)
two-tests false q n e = absurd (omega arith)

-- n places have fewer than n! numbers
pub number_small : (n : ℕ) (xs : List ℕ) → length xs ≡ n → number xs < fact n
number_small n xs l = subst (λ (k : ℕ). number xs < fact k) l (number_lt xs)

-- ---- orientations

module _ (k n : ℕ) (pos : 0 < k) where
  oriented : (v : ℕ) → v < k ^ n
      → (length (orientation_of k n v) ≡ suc n) × (pick (in_range k (orientation_of k n v)) 0 6 ≡ zero) × (digits k (take n (orientation_of k n v)) ≡ v)
  oriented v h =
      let s = orientation-sized k pos n v h in (
        s.size,
        ap (λ (b : Bool). pick b 0 6) (under-in_range k (orientation_of k n v) s.small),
        orientation-number k pos n v h,
      )

  oriented-small : (xs : List ℕ) → length xs ≡ suc n → pick (in_range k xs) 0 6 ≡ zero → digits k (take n xs) < k ^ n
  oriented-small xs l e = number-below k pos n xs (record { size = l; small = in_range-under k xs (one-test (in_range k xs) e) })

pub co-numbered : Numbered co
co-numbered = record { back = oriented 3 7 (omega arith); small = oriented-small 3 7 (omega arith) }

pub eo-numbered : Numbered eo
eo-numbered = record { back = oriented 2 11 (omega arith); small = oriented-small 2 11 (omega arith) }

-- ---- combinations

pub e-combo-numbered : Numbered e_combo
e-combo-numbered = record { back = back; small = small }
  where
    back : (n : ℕ) → n < 495 → (length (e_combo_of n) ≡ 12) × (e_combo.refusal (e_combo_of n) ≡ 0) × (e_combo.number (e_combo_of n) ≡ n)
    back n h =
        let b = combo-back n h in
        (b.0.size, rw (under-in_range 12 (e_combo_of n) b.0.small, eq-eqb (below 4 (e_combo_of n)) 4 b.1), b.2)

    small : (xs : List ℕ) → length xs ≡ 12 → e_combo.refusal xs ≡ 0 → e_combo.number xs < 495
    small xs l e = combo-small xs l (eqb-true (below 4 xs) 4 (two-tests (in_range 12 xs) (eqb (below 4 xs) 4) 4 e).1)

-- ---- permutations: b on top of the permutation of a number

module _ (b n v : ℕ) (h : v < fact n) where
  raised : List ℕ
  raised = map (λ x. b + x) (perm_of n v)

  pub raised-length : length (map (λ x. b + x) (perm_of n v)) ≡ n
  raised-length = length-map (perm_of n v) (λ x. b + x) ∙ length-perm_of n v

  pub raised-under : Under (b + n) (map (λ x. b + x) (perm_of n v))
  raised-under = under-map n (b + n) (λ x. b + x) (λ x l. omega arith) (perm_of n v) (perm_of-perm n v h).small

  pub raised-differ : no_repeat (map (λ x. b + x) (perm_of n v)) ≡ true
  raised-differ =
      no_repeat-map (λ x. b + x) (λ x y. omega (arith, same-is (b + x) (b + y), same-is x y)) (perm_of n v)
      ∙ once-no_repeat (perm_of n v) (perm_of-perm n v h).once

  pub raised-number : number (map (λ x. b + x) (perm_of n v)) ≡ v
  raised-number = number-map (λ x. b + x) (add-mono b) (perm_of n v) ∙ number-perm_of n v h

-- all the places
module _ (n a : ℕ) where
  permuted : (v : ℕ) → v < fact n
      → (length (perm_of n v) ≡ n) × (pick (in_range n (perm_of n v)) (pick (no_repeat (perm_of n v)) 0 6) a ≡ 0) × (number (perm_of n v) ≡ v)
  permuted v h =
      let p = perm_of-perm n v h in
      (p.size, rw (under-in_range n (perm_of n v) p.small, once-no_repeat (perm_of n v) p.once), number-perm_of n v h)

pub cp-numbered : Numbered cp
cp-numbered = record { back = permuted 8 4; small = λ xs l e. number_small 8 xs l }

pub ep-numbered : Numbered ep
ep-numbered = record { back = permuted 12 5; small = λ xs l e. number_small 12 xs l }

-- the eight places from 4 on
pub ud-places : (v : ℕ) → ud_places (ud_ep_of v) ≡ map (λ x. 4 + x) (perm_of 8 v)
ud-places v = take_all 8 (map (λ x. 4 + x) (perm_of 8 v)) (omega (arith, length-map (perm_of 8 v) (λ x. 4 + x), length-perm_of 8 v))

pub ud-ep-numbered : Numbered ud_ep
ud-ep-numbered = record { back = back; small = small }
  where
    back : (v : ℕ) → v < 40320 → (length (ud_ep_of v) ≡ 12) × (ud_ep.refusal (ud_ep_of v) ≡ 0) × (ud_ep.number (ud_ep_of v) ≡ v)
    back v h =
        let u = raised-under 4 8 v h in (
          omega (arith, raised-length 4 8 v h),
          rw (under-in_range 12 (ud_ep_of v) (omega arith, (omega arith, (omega arith, (omega arith, u)))), ud-places v, raised-differ 4 8 v h),
          ap number (ud-places v) ∙ raised-number 4 8 v h,
        )

    small : (xs : List ℕ) → length xs ≡ 12 → ud_ep.refusal xs ≡ 0 → ud_ep.number xs < 40320
    small xs l e = number_small 8 (ud_places xs) (simp (length-take, length-drop) (omega (arith, l)))

-- the four places before them
pub e-places : (v : ℕ) → e_places (e_ep_of v) ≡ perm_of 4 v
e-places v = take_at (perm_of 4 v) (replicate 8 0) 4 (length-perm_of 4 v)

pub e-ep-numbered : Numbered e_ep
e-ep-numbered = record { back = back; small = small }
  where
    zeros : Under 12 (replicate 8 0)
    zeros = in_range-under 12 (replicate 8 0) refl

    back : (v : ℕ) → v < 24 → (length (e_ep_of v) ≡ 12) × (e_ep.refusal (e_ep_of v) ≡ 0) × (e_ep.number (e_ep_of v) ≡ v)
    back v h =
        let p = perm_of-perm 4 v h in
        let u = under-append 12 (perm_of 4 v) (replicate 8 0) (under_more (omega arith) (perm_of 4 v) p.small) zeros in (
          length-append (perm_of 4 v) (replicate 8 0) ∙ omega (arith, p.size),
          rw (under-in_range 12 (e_ep_of v) u, e-places v, once-no_repeat (perm_of 4 v) p.once),
          ap number (e-places v) ∙ number-perm_of 4 v h,
        )

    small : (xs : List ℕ) → length xs ≡ 12 → e_ep.refusal xs ≡ 0 → e_ep.number xs < 24
    small xs l e = number_small 4 (e_places xs) (simp length-take (omega (arith, l)))
