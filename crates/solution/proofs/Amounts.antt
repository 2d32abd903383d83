-- Numbers that are read digit by digit. Assumes nothing.
use Rattle.std.proofs.Common.{arith, ◌≡◌, refl, sym, ap, ◌∙◌, Bool, true, false, ◌&&◌, List, ℕ, ◌+◌, ◌-◌, ◌*◌, ◌^◌, ◌≤◌, ◌<◌, leb, length, get_or, drop, add-one, Option, Some, None}
use Rattle.std.proofs.Math.ListN.{drop_of_length-le}
use native.Mathlib.Numerals.{unary_clauses}
use borrow.Author.Tests.{eq-eqb, ne_eqb, le-leb, lt-leb, lt-ltb, leb-true}
use Rattle.base.specs.Lists.{pick}
use Rattle.base.proofs.Steps.{next}
use Rattle.base.proofs.Tests.{below_true}
use Rattle.solution.specs.Request.{all_digits, is_number, value_from, amount_of}

-- what the bytes s tell behind digits of value a
unfoldable pub read_from : ℕ → List ℕ → Option ℕ
read_from a s = pick (all_digits s) (Some (value_from a s)) None

module _ (s : List ℕ) (i a : ℕ) (h : i < length s) where
  read_at : read_from a (drop i s) ≡ pick (leb 48 (get_or s i 0) && (leb (get_or s i 0) 57 && all_digits (drop (i + 1) s))) (Some (value_from (10 * a + (get_or s i 0 - 48)) (drop (i + 1) s))) None
  unfolding read_from all_digits value_from
  read_at = ap (read_from a) (next s i h)

  pub read-other : (leb 48 (get_or s i 0) && leb (get_or s i 0) 57) ≡ false → None ≡ read_from a (drop i s)
  read-other e = sym (read_at ∙ go (leb 48 (get_or s i 0)) (leb (get_or s i 0) 57) (all_digits (drop (i + 1) s)) (Some (value_from (10 * a + (get_or s i 0 - 48)) (drop (i + 1) s))) e)
    where
      go : (p q r : Bool) (v : Option ℕ) → (p && q) ≡ false → pick (p && (q && r)) v None ≡ None
      go true true r v e = cc
      go true false r v e = refl
      go false q r v e = refl

  pub read-digit : 48 ≤ get_or s i 0 → get_or s i 0 ≤ 57 → read_from (10 * a + (get_or s i 0 - 48)) (drop (i + 1) s) ≡ read_from a (drop i s)
  unfolding read_from
  read-digit k l = sym (read_at ∙ rw (le-leb 48 (get_or s i 0) k, le-leb (get_or s i 0) 57 l))

pub read-end : (s : List ℕ) (i a : ℕ) → length s ≤ i → Some a ≡ read_from a (drop i s)
unfolding read_from all_digits value_from
read-end s i a h = sym (ap (read_from a) (drop_of_length-le s h))

-- a digit more
pub value-next : (v c i : ℕ) → v < 10 ^ i → c ≤ 57 → 10 * v + (c - 48) < 10 ^ (i + 1)
value-next v c i h l = let p : 10 ^ (i + 1) ≡ 10 * 10 ^ i = ap (λ (k : ℕ). 10 ^ k) (add-one i) ∙ simp unary_clauses (omega arith) in omega (arith, p)

pub value-fits : (v i : ℕ) → v < 10 ^ i → i < 10 → v < 1000000000
value-fits v i h l = let p : 10 ^ i ≤ 1000000000 = leb-true _ _ (below_true (λ k. leb (10 ^ k) 1000000000) 10 refl i l) in omega (arith, h, p)

-- ---- an amount

module _ (usual : ℕ) (s : List ℕ) where
  pub amount-usual : length s ≡ 0 → Some usual ≡ amount_of usual s
  unfolding amount_of
  amount-usual e = rw (eq-eqb (length s) 0 e)

  pub amount-long : 10 < length s → None ≡ amount_of usual s
  unfolding amount_of is_number
  amount-long h =
      let n : length s ≡ 0 → ⊥ = λ e. omega (arith, e, h) in
      let p : 0 < length s = omega (arith, h) in
      rw (ne_eqb (length s) 0 n, lt-ltb 0 (length s) p, lt-leb (length s) 10 h)

  pub amount-read : (length s ≡ 0 → ⊥) → length s ≤ 10 → read_from 0 s ≡ amount_of usual s
  unfolding amount_of is_number read_from
  amount-read n h =
      let p : 0 < length s = omega (arith, n) in
      rw (ne_eqb (length s) 0 n, lt-ltb 0 (length s) p, le-leb (length s) 10 h)
