-- What the selection loop of `settle` and `count_swaps` does to the list. Assumes nothing.
use mathlib.Core.Path.{◌≡◌, refl, sym, ap, ap₂, ◌∙◌, subst}
use mathlib.Core.Logic.{⊎_elim}
use mathlib.Core.List.{List, [], ◌∷◌}
use Prim.Native.Nat.{ℕ, zero, suc, ◌+◌, ◌-◌, ◌≤◌, ◌<◌, suc-le-suc}
use native.Mathlib.Nat.{zero-lt-suc, le_of_suc-le-suc, eq-or-lt_of_le, not-suc-le-zero}
use native.Mathlib.Numerals.{add-one}
use native.Mathlib.Omega.{arith}
use lib.ListN.{length, get_or, drop, set, length-drop}
use lib.Seq.{get_or-drop, drop-set-lt, drop-set-add}
use Rattle.base.specs.Parity.{put, swaps_from, Settled}
use Rattle.base.specs.Perm.{same, count}
use Rattle.base.proofs.Perm.{same-is, same-cut}
use Rattle.base.proofs.Parity.{put-cut, put-none}
use Rattle.base.proofs.Steps.{next}

put_self : (i : ℕ) (ys : List ℕ) → put i i ys ≡ ys
unfolding put
put_self i [] = refl
put_self i (y ∷ ys) = ⊎_elim (λ u. u.2 ∙ ap (λ (z : ℕ). z ∷ ys) u.0) (λ u. u.1 ∙ ap (◌∷◌ y) (put_self i ys)) (put-cut i i y ys)

same-no : (i y : ℕ) → same i y ≡ 0 → y ≡ i → ⊥
same-no i y s e = omega (arith, same-is i y)

same-yes : (i y : ℕ) → i ≡ y → same i y ≡ 1
same-yes i y e = omega (arith, same-is i y)

-- the first place that holds i is k
put-at : (i x : ℕ) (ys : List ℕ) (k : ℕ) → k < length ys → get_or ys k 0 ≡ i → ((m : ℕ) → m < k → get_or ys m 0 ≡ i → ⊥)
    → (put i x ys ≡ set ys k x) × (0 < count i ys)
put-at i x [] k h e n = absurd (not-suc-le-zero h)
put-at i x (y ∷ ys) zero h e n =
    ⊎_elim (λ u. (u.2, omega (arith, same-yes i y u.0))) (λ u. absurd (same-no i y u.0 e)) (put-cut i x y ys)
put-at i x (y ∷ ys) (suc k) h e n =
    let r = put-at i x ys k (le_of_suc-le-suc h) e (λ m l. n (suc m) (suc-le-suc l)) in
    ⊎_elim (λ u. absurd (n zero (zero-lt-suc k) (sym u.0))) (λ u. (u.1 ∙ ap (◌∷◌ y) r.0, omega arith)) (put-cut i x y ys)

none-at : (i : ℕ) (ys : List ℕ) → ((m : ℕ) → m < length ys → get_or ys m 0 ≡ i → ⊥) → count i ys ≡ 0
none-at i [] n = refl
none-at i (y ∷ ys) n =
    let r = none-at i ys (λ m l. n (suc m) (suc-le-suc l)) in
    ⊎_elim (λ u. absurd (n zero (zero-lt-suc (length ys)) (sym u.0))) (λ u. omega arith) (put-cut i i y ys)

-- none of the places between i and j holds i
abbrev pub Passed : ℕ → ℕ → List ℕ → Type 0
Passed i j p = (k : ℕ) → i < k → k < j → get_or p k 0 ≡ i → ⊥

pub passed_none : (i : ℕ) (p : List ℕ) → Passed i (i + 1) p
passed_none i p k a b e = omega arith

pub passed-more : (i j : ℕ) (p : List ℕ) → Passed i j p → (get_or p j 0 ≡ i → ⊥) → Passed i (j + 1) p
passed-more i j p n x k a b e = ⊎_elim (λ q. x (subst (λ (m : ℕ). get_or p m 0 ≡ i) q e)) (λ q. n k a q e) (eq-or-lt_of_le {n = k} {m = j} (omega arith))

module _ (i : ℕ) (p : List ℕ) where
  rest_at : (m : ℕ) → get_or (drop (i + 1) p) m 0 ≡ get_or p (i + 1 + m) 0
  rest_at m = get_or-drop (i + 1) p m 0

  pub settle-fixed : get_or p i 0 ≡ i → Settled i p p 0
  settle-fixed e = record {
    swapped = omega (arith, same-is i (get_or p i 0));
    left = sym (ap (λ (x : ℕ). put i x (drop (i + 1) p)) e ∙ put_self i (drop (i + 1) p));
  }

  pub settle-none : (j : ℕ) → length p ≤ j → Passed i j p → Settled i p p 0
  settle-none j h n =
      let c : count i (drop (i + 1) p) ≡ 0 =
      none-at i (drop (i + 1) p) (λ m l e. n (i + 1 + m) (omega arith) (omega (arith, length-drop (i + 1) p)) (sym (rest_at m) ∙ e)) in
      record { swapped = omega arith; left = sym (put-none i (get_or p i 0) (drop (i + 1) p) c) }

  pub settle-found : (j : ℕ) → i < j → j < length p → (get_or p i 0 ≡ i → ⊥) → Passed i j p → get_or p j 0 ≡ i
      → Settled i p (set (set p i (get_or p j 0)) j (get_or p i 0)) 1
  settle-found j a h x n e =
      let k = j - (i + 1) in
      let jk : i + 1 + k ≡ j = omega arith in
      let r =
      put-at i (get_or p i 0) (drop (i + 1) p) k (omega (arith, length-drop (i + 1) p)) (rest_at k ∙ ap (λ (m : ℕ). get_or p m 0) jk ∙ e)
      (λ m l q. n (i + 1 + m) (omega arith) (omega arith) (sym (rest_at m) ∙ q)) in
      let moved : drop (i + 1) (set (set p i (get_or p j 0)) j (get_or p i 0)) ≡ set (drop (i + 1) p) k (get_or p i 0) =
      ap (λ (m : ℕ). drop (i + 1) (set (set p i (get_or p j 0)) m (get_or p i 0))) (sym jk)
      ∙ drop-set-add (i + 1) (set p i (get_or p j 0)) k (get_or p i 0)
      ∙ ap (λ (l : List ℕ). set l k (get_or p i 0)) (drop-set-lt (i + 1) p i (get_or p j 0) (omega arith)) in
      let s : same i (get_or p i 0) ≡ 0 = ⊎_elim (λ u. absurd (x (sym u.0))) (λ u. u) (same-cut i (get_or p i 0)) in
      record { swapped = omega (arith, r.1); left = moved ∙ sym r.0 }

-- one turn of `count_swaps`
pub swaps-step : (n i : ℕ) (p t : List ℕ) (r : ℕ) → i < length p → length p ≡ n → Settled i p t r
    → swaps_from (n - i) i (drop i p) ≡ r + swaps_from (n - (i + 1)) (i + 1) (drop (i + 1) t)
unfolding swaps_from
swaps-step n i p t r h l s =
    let m = n - (i + 1) in
    let e : n - i ≡ suc m = omega arith in
    ap₂ (λ (k : ℕ) (q : List ℕ). swaps_from k i q) e (next p i h)
    ∙ ap₂ (λ (k : ℕ) (q : List ℕ). k + swaps_from m (suc i) q) (sym s.swapped) (sym s.left)
    ∙ ap (λ (k : ℕ). r + swaps_from m k (drop (i + 1) t)) (sym (add-one i))

pub swaps-end : (n i : ℕ) (p : List ℕ) → n ≤ i → swaps_from (n - i) i p ≡ 0
unfolding swaps_from
swaps-end n i p h = let z : n - i ≡ 0 = omega arith in ap (λ (k : ℕ). swaps_from k i p) z

pub settled-le : (i : ℕ) (p t : List ℕ) (r : ℕ) → Settled i p t r → r ≤ 1
settled-le i p t r s = omega (arith, s.swapped)
