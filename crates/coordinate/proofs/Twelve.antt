-- The refusals of the coordinates by their numbers. Assumes nothing.
use Rattle.std.proofs.Common.{◌≡◌, refl, ℕ, zero, suc, ◌<◌, Bool, true, false, eqb, List, length}
use native.Mathlib.Omega.{arith}
use Rattle.base.specs.Lists.{pick}
use Rattle.numbering.specs.Kinds.{e_combo}
use Rattle.coordinate.specs.Calls.{fits, kind_at, index_number}

-- 10, or the refusal of the four places' choice
pub e-combo-number : (xs : List ℕ) → ◌≡◌ {A = ℕ} (pick (eqb (length xs) 12) 0 10) 0 → index_number 2 xs ≡ e_combo.refusal xs
e-combo-number xs = go (eqb (length xs) 12)
  where
    go : (b : Bool) → ◌≡◌ {A = ℕ} (pick b 0 10) 0 → pick b (e_combo.refusal xs) 10 ≡ e_combo.refusal xs
    go true e = refl
    go false e = absurd (omega arith)

one : (b : Bool) → pick b 0 6 < 16
one true = omega arith
one false = omega arith

two : (k : ℕ) (a b : Bool) → k < 16 → pick a (pick b 0 6) k < 16
two k true b h = one b
two k false b h = h

small : (k : ℕ) (xs : List ℕ) → (kind_at k).refusal xs < 16
small zero xs = one _
small (suc zero) xs = one _
small (suc (suc zero)) xs = two 5 _ _ (omega arith)
small (suc (suc (suc zero))) xs = two 4 _ _ (omega arith)
small (suc (suc (suc (suc zero)))) xs = two 5 _ _ (omega arith)
small (suc (suc (suc (suc (suc zero))))) xs = two 5 _ _ (omega arith)
small (suc (suc (suc (suc (suc (suc zero)))))) xs = two 5 _ _ (omega arith)
small (suc (suc (suc (suc (suc (suc (suc k))))))) xs = two 5 _ _ (omega arith)

pub number-small : (k : ℕ) (xs : List ℕ) → index_number k xs < 16
number-small k xs = go (fits k xs)
  where
    go : (b : Bool) → pick b ((kind_at k).refusal xs) 10 < 16
    go true = small k xs
    go false = omega arith
