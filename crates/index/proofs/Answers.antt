-- What the tests of the public functions say of the definitions. Assumes nothing.
use mathlib.Core.Path.{◌≡◌, sym, ◌∙◌}
use mathlib.Core.Bool.{Bool, true, false, not}
use mathlib.Core.List.{List}
use Prim.Native.Nat.{ℕ, ◌≤◌}
use native.Mathlib.Omega.{arith}
use lib.ListN.{length, take, drop, length-take}
use borrow.Author.Tests.{not-true, not-false}
use Rattle.base.specs.Lists.{Under, in_range}
use Rattle.base.proofs.Tests.{in_range-under, under_more, under-take, under_drop}

-- a: what the code found, b: the test of the definition
module _ {a b : Bool} (e : a ≡ b) where
  pub failed : not a ≡ true → b ≡ false
  failed h = sym e ∙ not-true a h

  pub passed : not a ≡ false → b ≡ true
  passed h = sym e ∙ not-false a h

-- `count` edges from place `at` on are few and small enough for the test of repeats
pub few-small : (at count : ℕ) (xs : List ℕ) → count ≤ 32 → in_range 12 xs ≡ true
    → (length (take count (drop at xs)) ≤ 32) × Under 32 (take count (drop at xs))
few-small at count xs h e =
    (simp length-take (omega arith), under_more (omega arith) (take count (drop at xs)) (under-take 12 count (drop at xs) (under_drop 12 at xs (in_range-under 12 xs e))))
