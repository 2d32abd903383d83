-- A number in 16 bits is below the same counts, and there it is itself. Assumes nothing.
use Rattle.std.proofs.Common.{◌≡◌, refl, ℕ, ◌≤◌, Bool, true, false, ltb, eqb, List}
use native.Mathlib.Omega.{arith}
use borrow.Author.Tests.{le-ltb, ltb-true, ltb-false}
use Rattle.base.specs.Lists.{pick}
use Rattle.refusal.specs.Refusals.{answered, value_or}
use Rattle.index.specs.Answers.{arranged}
use Rattle.coordinate.specs.Calls.{narrowed}

pub arranged_narrow : (count n : ℕ) (of : ℕ → List ℕ) → count ≤ 65535 → arranged count of (narrowed n) ≡ arranged count of n
arranged_narrow count n of h = go (ltb n count) refl
  where
    go : (t : Bool) → ltb n count ≡ t → arranged count of (narrowed n) ≡ arranged count of n
    go true e = let l = ltb-true n count e in let s : narrowed n ≡ n = omega arith in rw s refl
    go false e = let l = ltb-false n count e in rw (le-ltb (narrowed n) count (omega arith), e) refl

-- and what is left of the places is the same
pub left_narrow : (count n : ℕ) (of : ℕ → List ℕ) (places : List ℕ) → count ≤ 65535 → (b : Bool)
    → pick b (value_or places (arranged count of (narrowed n))) places ≡ pick (eqb (pick b (pick (ltb n count) 0 8) 10) 0) (of n) places
left_narrow count n of places h true = rw (arranged_narrow count n of h) (go (ltb n count))
  where
    go : (t : Bool) → value_or places (answered (pick t 0 8) (of n)) ≡ pick (eqb (pick t 0 8) 0) (of n) places
    go true = refl
    go false = refl
left_narrow count n of places h false = refl
