-- What survives from arrangement to number to arrangement: all of it for cp, ep, co with sum 0 modulo 3 and eo with sum 0 modulo 2; for e_combo
-- which places hold an edge below 4; for ud_ep and e_ep the order inside their own places. Assumes nothing.
use mathlib.Core.Path.{◌≡◌, refl, sym, ap, ap₂, subst, ◌∙◌}
use mathlib.Core.Logic.{⊎_elim}
use mathlib.Core.Bool.{true}
use mathlib.Core.List.{List, [], ◌∷◌, map}
use Prim.Native.Nat.{ℕ, zero, suc, ◌+◌, ◌*◌, ◌/◌, ◌%◌, ◌≤◌, ◌<◌}
use native.Mathlib.Nat.{suc_inj, suc-ne-zero, le_of_suc-le-suc, eq-or-lt_of_le, not-suc-le-zero}
use native.Mathlib.Omega.{arith}
use lib.Arith.{digits_div, digits_mod}
use lib.Dec.{eqb}
use lib.ListN.{length, get_or, length-map, length-take, length-drop}
use borrow.Author.Tests.{eqb-true}
use Rattle.base.specs.Combo.{mask}
use Rattle.base.specs.Lists.{total, Sized}
use Rattle.base.specs.Perm.{less, below, count, fact, number, bump, perm_of, Perm, no_repeat}
use Rattle.base.proofs.Combo.{combo-mask}
use Rattle.base.proofs.Digits.{number-orientation}
use Rattle.base.proofs.Perm.{less-is, less-cut, same-is, bump-is, below_suc, add-mono, number_lt, perm_of-number, length-perm_of}
use Rattle.base.proofs.Product.{map_at}
use Rattle.base.proofs.Tests.{and-true}
use Rattle.numbering.specs.Coordinates.{co_number, eo_number, e_combo_number, ud_places, e_places, ud_ep_number, e_ep_number}
use Rattle.numbering.specs.Coordinates.{co_of, eo_of, e_combo_of, ud_ep_of, e_ep_of}
use Rattle.numbering.specs.Kinds.{SameOrder}
use Rattle.numbering.proofs.Numbers.{ud-places, e-places}

-- ---- all of it

pub co-survives : (xs : List ℕ) → Sized 8 3 xs → total (λ x. x) xs % 3 ≡ 0 → co_of (co_number xs) ≡ xs
co-survives xs s e = number-orientation 3 (omega arith) 7 xs s e

pub eo-survives : (xs : List ℕ) → Sized 12 2 xs → total (λ x. x) xs % 2 ≡ 0 → eo_of (eo_number xs) ≡ xs
eo-survives xs s e = number-orientation 2 (omega arith) 11 xs s e

-- cp and ep
pub perm-survives : (n : ℕ) (xs : List ℕ) → Perm n xs → perm_of n (number xs) ≡ xs
perm-survives n xs p = perm_of-number n xs p

-- ---- which places hold an edge below 4

pub e-combo-survives : (xs : List ℕ) → length xs ≡ 12 → below 4 xs ≡ 4 → mask (e_combo_of (e_combo_number xs)) ≡ mask xs
e-combo-survives xs l f = combo-mask xs l f

-- ---- the order

-- below grows with its bound
below-mono : {a b : ℕ} → a ≤ b → (xs : List ℕ) → below a xs ≤ below b xs
below-mono h [] = omega arith
below-mono {a} {b} h (x ∷ xs) = omega (arith, below-mono h xs, less-is x a, less-is x b)

-- what stands in a list is counted there
count_at : (xs : List ℕ) (j : ℕ) → j < length xs → 0 < count (get_or xs j 0) xs
count_at [] j h = absurd (not-suc-le-zero h)
count_at (x ∷ xs) zero h = omega (arith, same-is x x)
count_at (x ∷ xs) (suc j) h = omega (arith, count_at xs j (le_of_suc-le-suc h))

-- of two numbers, one of which stands in the list, the smaller one has fewer below it
below_less : (xs : List ℕ) (y x : ℕ) → 0 < count y xs → y < x → below y xs < below x xs
below_less xs y x c h = omega (arith, below_suc y xs, below-mono {a = suc y} {b = x} h xs)

-- the place after the first, where p is the number below y among the others
rank-next : (x y : ℕ) (xs : List ℕ) → count x xs ≡ 0 → 0 < count y xs → bump (below x xs) (below y xs) ≡ below y (x ∷ xs)
rank-next x y xs none here =
    let b = bump-is (below x xs) (below y xs) in
    ⊎_elim (λ u. omega (arith, b, below-mono {a = x} {b = y} (omega (arith, u.0)) xs))
    (λ u.
    ⊎_elim (λ (e : y ≡ x). absurd (omega (arith, ap (λ (z : ℕ). count z xs) e)))
    (λ (v : y < x). omega (arith, b, below_less xs y x here v)) (eq-or-lt_of_le {n = y} {m = x} u.0))
    (less-cut x y)

-- the permutation of the number of a list without repeats holds at each place how many of the list are below the element there
ranks : (n : ℕ) (xs : List ℕ) → length xs ≡ n → no_repeat xs ≡ true → (j : ℕ) → j < n → get_or (perm_of n (number xs)) j 0 ≡ below (get_or xs j 0) xs
unfolding perm_of
ranks zero xs l d j h = absurd (not-suc-le-zero h)
ranks (suc n) [] l d j h = absurd (suc-ne-zero n (sym l))
ranks (suc n) (x ∷ xs) l d j h =
    let m : length xs ≡ n = suc_inj l in
    let small : number xs < fact n = subst (λ (k : ℕ). number xs < fact k) m (number_lt xs) in
    let at : number (x ∷ xs) ≡ below x xs * fact n + number xs = ap (λ (k : ℕ). below x xs * fact k + number xs) m in
    let q : number (x ∷ xs) / fact n ≡ below x xs = ap (λ (k : ℕ). k / fact n) at ∙ digits_div (below x xs) small in
    let r : number (x ∷ xs) % fact n ≡ number xs = ap (λ (k : ℕ). k % fact n) at ∙ digits_mod (below x xs) small in
    let t = and-true (eqb (count x xs) 0) (no_repeat xs) d in
    ap₂ (λ (a b : ℕ). get_or (a ∷ map (bump a) (perm_of n b)) j 0) q r ∙ go (eqb-true _ _ t.0) m (ranks n xs m t.1) j h
  where
    go : count x xs ≡ 0 → length xs ≡ n → ((j : ℕ) → j < n → get_or (perm_of n (number xs)) j 0 ≡ below (get_or xs j 0) xs)
        → (j : ℕ) → j < suc n → get_or (below x xs ∷ map (bump (below x xs)) (perm_of n (number xs))) j 0 ≡ below (get_or (x ∷ xs) j 0) (x ∷ xs)
    go none m ih zero h = omega (arith, less-is x x)
    go none m ih (suc j) h =
        let k : j < n = le_of_suc-le-suc h in
        map_at (bump (below x xs)) (perm_of n (number xs)) j (omega (arith, length-perm_of n (number xs)))
        ∙ ap (bump (below x xs)) (ih j k)
        ∙ rank-next x (get_or xs j 0) xs none (count_at xs j (omega arith))

-- so it stands in the same order
pub order-survives : (xs : List ℕ) → no_repeat xs ≡ true → SameOrder (perm_of (length xs) (number xs)) xs
order-survives xs d = (length-perm_of n (number xs), order)
  where
    n : ℕ
    n = length xs

    order : (i j : ℕ) → i < length (perm_of (length xs) (number xs)) → j < length (perm_of (length xs) (number xs))
        → less (get_or (perm_of (length xs) (number xs)) i 0) (get_or (perm_of (length xs) (number xs)) j 0) ≡ less (get_or xs i 0) (get_or xs j 0)
    order i j h k =
        let l = length-perm_of (length xs) (number xs) in
        let a : i < length xs = omega arith in
        let b : j < length xs = omega arith in
        let x = get_or xs i 0 in
        let y = get_or xs j 0 in
        let e = less-is (below x xs) (below y xs) in
        ap₂ less (ranks (length xs) xs refl d i a) (ranks (length xs) xs refl d j b)
        ∙ ⊎_elim (λ u. omega (arith, e, below_less xs x y (count_at xs i a) u.0)) (λ u. omega (arith, e, below-mono {a = y} {b = x} u.0 xs)) (less-cut x y)

-- on top of b the order is the same
raised-order : (b : ℕ) (xs ys : List ℕ) → SameOrder xs ys → SameOrder (map (λ x. b + x) xs) ys
raised-order b xs ys s = (
  l ∙ s.0,
  λ i j h k.
      let a : i < length xs = omega (arith, l) in
      let c : j < length xs = omega (arith, l) in
      ap₂ less (map_at (λ x. b + x) xs i a) (map_at (λ x. b + x) xs j c) ∙ add-mono b (get_or xs i 0) (get_or xs j 0) ∙ s.1 i j a c,
)
  where
    l : length (map (λ x. b + x) xs) ≡ length xs
    l = length-map xs (λ x. b + x)

pub ud-ep-survives : (xs : List ℕ) → length xs ≡ 12 → no_repeat (ud_places xs) ≡ true → SameOrder (ud_places (ud_ep_of (ud_ep_number xs))) (ud_places xs)
ud-ep-survives xs l d =
    let e : length (ud_places xs) ≡ 8 = simp (length-take, length-drop) (omega (arith, l)) in
    let s : SameOrder (perm_of 8 (number (ud_places xs))) (ud_places xs) =
    subst (λ (n : ℕ). SameOrder (perm_of n (number (ud_places xs))) (ud_places xs)) e (order-survives (ud_places xs) d) in
    subst (λ (ys : List ℕ). SameOrder ys (ud_places xs)) (sym (ud-places (ud_ep_number xs))) (raised-order 4 (perm_of 8 (number (ud_places xs))) (ud_places xs) s)

pub e-ep-survives : (xs : List ℕ) → length xs ≡ 12 → no_repeat (e_places xs) ≡ true → SameOrder (e_places (e_ep_of (e_ep_number xs))) (e_places xs)
e-ep-survives xs l d =
    let e : length (e_places xs) ≡ 4 = simp length-take (omega (arith, l)) in
    subst (λ (ys : List ℕ). SameOrder ys (e_places xs)) (sym (e-places (e_ep_number xs)))
    (subst (λ (n : ℕ). SameOrder (perm_of n (number (e_places xs))) (e_places xs)) e (order-survives (e_places xs) d))
