-- A list in an array of 31: what one store more does, and what a full list reads. Assumes nothing.
use Prim.Native.Nat.{ℕ, suc, ◌+◌, ◌-◌, ◌<◌, ◌≤◌}
use mathlib.Core.Path.{◌≡◌, refl, sym, ap, subst, ◌∙◌}
use mathlib.Core.List.{List, [], ◌∷◌, ◌++◌}
use native.Mathlib.Omega.{arith}
use native.Mathlib.Numerals.{add-one}
use lib.ListN.{length, take, set, replicate, length-set, length-append}
use lib.Seq.{length-take-le, take-suc-set, set_at, set-set, append_snoc}
use Rattle.base.specs.Lists.{Under}
use Rattle.base.proofs.Digits.{under-append}
use Rattle.phase2_steps.specs.Paths.{padded, Holds, Stored}

pub holds-none : Holds (replicate 31 0) 0
unfolding padded
holds-none = record { size = refl; rest = refl; moves = tt }

-- the list that the array holds has n moves
pub held-length : {path : List ℕ} {n : ℕ} → Holds path n → n ≤ 31 → length (take n path) ≡ n
held-length {path} {n} h l = length-take-le n path (omega (arith, h.size))

-- the array that holds the n moves is handed back as the list
pub held-stored : {path : List ℕ} {n : ℕ} → Holds path n → Stored (take n path) path
held-stored h = record { is = h.rest; moves = h.moves }

module _ {path : List ℕ} {n : ℕ} (h : Holds path n) (m : ℕ) where
  module _ (l : n < 31) where
    pub take_more : take (n + 1) (set path n m) ≡ take n path ++ (m ∷ [])
    take_more = ap (λ (k : ℕ). take k (set path n m)) (add-one n) ∙ take-suc-set path n m (omega (arith, h.size))

    as-list : set path n m ≡ take n path ++ m ∷ replicate (30 - n) 0
    unfolding padded
    as-list =
        ap (λ (p : List ℕ). set p n m) h.rest
        ∙ ap (λ (k : ℕ). set (take n path ++ replicate k 0) n m) left
        ∙ set_at (take n path) 0 (replicate (30 - n) 0) m n (held-length h (omega arith))
      where
        left : 31 - length (take n path) ≡ suc (30 - n)
        left = omega (arith, held-length h (omega arith))

    as-padded : padded (take n path ++ (m ∷ [])) ≡ take n path ++ m ∷ replicate (30 - n) 0
    unfolding padded
    as-padded =
        ap (λ (k : ℕ). take n path ++ (m ∷ []) ++ replicate k 0) left
        ∙ append_snoc (take n path) m (replicate (30 - n) 0)
      where
        left : 31 - length (take n path ++ (m ∷ [])) ≡ 30 - n
        left = omega (arith, held-length h (omega arith), length-append (take n path) (m ∷ []))

    pub holds_more : m < 18 → Holds (set path n m) (n + 1)
    holds_more k =
        record {
          size = length-set path n m ∙ h.size;
          rest = as-list ∙ sym as-padded ∙ ap padded (sym take_more);
          moves = subst (Under 18) (sym take_more) (under-append 18 (take n path) (m ∷ []) h.moves (k, tt));
        }

-- the move that was stored last is taken off again
pub popped : {path : List ℕ} {n : ℕ} → Holds path n → (m : ℕ) → n < 31 → set (set path n m) n 0 ≡ path
unfolding padded
popped {path} {n} h m l = set-set path n m 0 ∙ as-list h 0 l ∙ sym (h.rest ∙ ap (λ (k : ℕ). take n path ++ replicate k 0) left)
  where
    left : 31 - length (take n path) ≡ suc (30 - n)
    left = omega (arith, held-length h (omega arith))
