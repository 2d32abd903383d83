-- The first number that passes a test, as a loop looks for it. Assumes nothing.
use mathlib.Core.Path.{◌≡◌, sym, ap, ap₂, ◌∙◌}
use mathlib.Core.Bool.{Bool, true, false}
use Prim.Native.Nat.{ℕ, zero, suc, ◌+◌, ◌-◌, ◌≤◌, ◌<◌}
use native.Mathlib.Numerals.{add-one}
use native.Mathlib.Omega.{arith}
use Rattle.base.specs.Lists.{pick}
use Rattle.stickers.specs.Reader.{first_from}

module _ (p : ℕ → Bool) (n j : ℕ) where
  first-at : (b : Bool) → j < n → p j ≡ b → first_from p j (n - j) ≡ pick b j (first_from p (j + 1) (n - (j + 1)))
  unfolding first_from
  first-at b h e =
      let s : n - j ≡ suc (n - (j + 1)) = omega arith in
      ap (first_from p j) s ∙ ap₂ (λ (t : Bool) (k : ℕ). pick t j (first_from p k (n - (j + 1)))) e (sym (add-one j))

  pub first_found : j < n → p j ≡ true → first_from p j (n - j) ≡ j
  first_found h e = first-at true h e

  pub first_next : j < n → p j ≡ false → first_from p (j + 1) (n - (j + 1)) ≡ first_from p j (n - j)
  first_next h e = sym (first-at false h e)

  pub first-none : n ≤ j → first_from p j (n - j) ≡ j
  unfolding first_from
  first-none h = let z : n - j ≡ 0 = omega arith in ap (first_from p j) z

pub first-le : (p : ℕ → Bool) (j m : ℕ) → first_from p j m ≤ j + m
unfolding first_from
first-le p j zero = omega arith
first-le p j (suc m) = go (p j) (first-le p (suc j) m)
  where
    go : (b : Bool) → first_from p (suc j) m ≤ suc j + m → pick b j (first_from p (suc j) m) ≤ j + suc m
    go true h = omega arith
    go false h = omega arith
