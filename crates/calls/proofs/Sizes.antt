-- What a store leaves of lent bytes of a known length. Assumes nothing.
use mathlib.Core.Path.{◌≡◌, refl}
use mathlib.Core.List.{List, [], ◌∷◌}
use Prim.Native.Nat.{ℕ}
use native.Mathlib.Omega.{arith}
use lib.ListN.{length, set}

pub one_byte : (l : List ℕ) (v : ℕ) → length l ≡ 1 → set l 0 v ≡ v ∷ []
one_byte [] v h = absurd (omega arith)
one_byte (x ∷ []) v h = refl
one_byte (x ∷ y ∷ l) v h = absurd (omega arith)

pub four_bytes : (l : List ℕ) (a b c d : ℕ) → length l ≡ 4 → set (set (set (set l 0 a) 1 b) 2 c) 3 d ≡ a ∷ b ∷ c ∷ d ∷ []
four_bytes [] a b c d h = absurd (omega arith)
four_bytes (x ∷ []) a b c d h = absurd (omega arith)
four_bytes (x ∷ y ∷ []) a b c d h = absurd (omega arith)
four_bytes (x ∷ y ∷ z ∷ []) a b c d h = absurd (omega arith)
four_bytes (x ∷ y ∷ z ∷ w ∷ []) a b c d h = refl
four_bytes (x ∷ y ∷ z ∷ w ∷ v ∷ l) a b c d h = absurd (omega arith)
