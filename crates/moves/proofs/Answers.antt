-- The lowest and the first of two refusals. Assumes nothing.
use mathlib.Core.Path.{◌≡◌, refl}
use mathlib.Core.Bool.{Bool, true, false}
use Prim.Native.Nat.{ℕ, zero, ◌<◌, min}
use native.Mathlib.Omega.{arith}
use lib.Dec.{ltb, eqb}
use borrow.Author.Tests.{eq-eqb, ne_eqb, eqb-true, eqb-false, ltb-true, leb-true, leb-false}
use Rattle.std.proofs.Common.{rules, Err, suc, ◌∙◌, leb}
use native.Mathlib.Nat.{min-eq_left, min-eq_right, le_of_lt}
use Rattle.base.specs.Lists.{pick}
use Rattle.refusal.specs.declared.Refusal.{Refusal}
use Rattle.refusal.specs.Refusals.{answered, checked, lowest}
use Rattle.refusal.proofs.Laws.{lowest_both, stays}
use Rattle.moves.specs.Answers.{lowest_of, first_of}
use Rattle.moves.specs.Moves.{move_refusal}

pub lowest-none : (m n : ℕ) → lowest_of m n ≡ 0 → (m ≡ 0) × (n ≡ 0)
unfolding lowest_of
lowest-none m n h = go (eqb m 0) (eqb n 0) refl refl h
  where
    go : (p q : Bool) → eqb m 0 ≡ p → eqb n 0 ≡ q → pick p n (pick q m (min m n)) ≡ 0 → (m ≡ 0) × (n ≡ 0)
    go true q a b e = (eqb-true m 0 a, e)
    go false true a b e = (e, eqb-true n 0 b)
    go false false a b e = absurd (omega (arith, eqb-false m 0 a, eqb-false n 0 b))

pub first-none : (m n : ℕ) → first_of m n ≡ 0 → (m ≡ 0) × (n ≡ 0)
unfolding first_of
first-none m n h = go (eqb m 0) refl h
  where
    go : (p : Bool) → eqb m 0 ≡ p → pick p n m ≡ 0 → (m ≡ 0) × (n ≡ 0)
    go true a e = (eqb-true m 0 a, e)
    go false a e = absurd (eqb-false m 0 a e)

pub first-refused : (m n : ℕ) → (m ≡ 0 → ⊥) → m ≡ first_of m n
unfolding first_of
first-refused m n h = rw (ne_eqb m 0 h)

pub first_rest : (m n : ℕ) → m ≡ 0 → first_of m n ≡ n
unfolding first_of
first_rest m n h = rw (eq-eqb m 0 h)

pub move-none : (m : ℕ) → move_refusal m ≡ 0 → m < 18
move-none m h = go (ltb m 18) refl h
  where
    go : (p : Bool) → ltb m 18 ≡ p → pick p 0 7 ≡ zero → m < 18
    go true a e = ltb-true m 18 a
    go false a e = absurd (omega arith)

pub lowest_right : (m n : ℕ) → m ≡ 0 → lowest_of m n ≡ n
unfolding lowest_of
lowest_right m n h = rw h refl

-- of two moves, a first that is refused decides
pub either_refused : (m n : ℕ) (r : Refusal) → checked (move_refusal m) ≡ Err r → checked (lowest_of (move_refusal m) (move_refusal n)) ≡ Err r
unfolding lowest_of
either_refused m n r = go (ltb m 18) (ltb n 18)
  where
    go : (p q : Bool) → checked (pick p 0 7) ≡ Err r → checked (lowest_of (pick p 0 7) (pick q 0 7)) ≡ Err r
    go true q e = search rules
    go false true e = e
    go false false e = e

pub lowest_checked : (m n : ℕ) → m < 16 → n < 16 → lowest (checked m) (checked n) ≡ checked (lowest_of m n)
unfolding lowest_of
lowest_checked zero n l h = refl
lowest_checked (suc m) zero l h = let e = ne_eqb (suc m) 0 (λ e. omega arith) in rw (e, e) refl
lowest_checked (suc m) (suc n) l h = lowest_both m n (omega (arith, l)) (omega (arith, h)) ∙ go (leb (suc m) (suc n)) refl
  where
    go : (p : Bool) → leb (suc m) (suc n) ≡ p → pick p (checked (suc m)) (checked (suc n)) ≡ checked (lowest_of (suc m) (suc n))
    go true e = rw (ne_eqb (suc m) 0 (λ e. omega arith), ne_eqb (suc n) 0 (λ e. omega arith), min-eq_left (leb-true (suc m) (suc n) e), ne_eqb (suc m) 0 (λ e. omega arith)) refl
    go false e = rw (ne_eqb (suc m) 0 (λ e. omega arith), ne_eqb (suc n) 0 (λ e. omega arith), min-eq_right (le_of_lt (leb-false (suc m) (suc n) e)), ne_eqb (suc n) 0 (λ e. omega arith)) refl

-- what stands after the first of two refusals
pub first_stays : {A : Type 0} (m n : ℕ) (r : Refusal) (a : A) → checked m ≡ Err r → answered (first_of m n) a ≡ Err r
unfolding first_of
first_stays zero n r a e = search rules
first_stays (suc m) n r a e = rw (ne_eqb (suc m) 0 (λ z. omega arith)) (stays (suc m) r a e)

pub first_next : {A : Type 0} (m n : ℕ) (a : A) → m ≡ 0 → answered (first_of m n) a ≡ answered n a
unfolding first_of
first_next m n a z = rw z refl
