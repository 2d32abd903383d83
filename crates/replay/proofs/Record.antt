-- What stands at each place of the bytes that a line of hex stands for, and where a part lies. Assumes nothing.
use mathlib.Core.Path.{◌≡◌, refl, sym, ap₂, ◌∙◌}
use mathlib.Core.Bool.{Bool, true, false, ◌&&◌}
use mathlib.Core.List.{List, [], ◌∷◌}
use Prim.Native.Nat.{ℕ, zero, suc, ◌+◌, ◌-◌, ◌*◌, ◌/◌, ◌≤◌, ◌<◌}
use native.Mathlib.Omega.{arith}
use lib.Dec.{leb}
use lib.ListN.{length, get_or}
use borrow.Author.Tests.{leb-true}
use Rattle.base.specs.Lists.{pick}
use Rattle.replay.specs.Record.{nibble_of, unhexed}

pub nibble-le : (c : ℕ) → nibble_of c ≤ 15
unfolding nibble_of
nibble-le c = go (leb 97 c) (leb c 102) (leb 48 c) (leb c 57) refl refl refl
  where
    go : (p q r s : Bool) → leb c 102 ≡ q → leb c 57 ≡ s → leb 97 c ≡ p → pick p (pick q (c - 87) 0) (pick (r && s) (c - 48) 0) ≤ 15
    go true true r s a b d = omega (arith, leb-true c 102 a)
    go true false r s a b d = omega arith
    go false q true true a b d = omega (arith, leb-true c 57 b)
    go false q true false a b d = omega arith
    go false q false s a b d = omega arith

pub unhexed-length : (s : List ℕ) → length (unhexed s) ≡ length s / 2
unfolding unhexed
unhexed-length [] = refl
unhexed-length (a ∷ []) = refl
unhexed-length (a ∷ b ∷ s) = omega (arith, unhexed-length s)

pub unhexed-at : (s : List ℕ) (i : ℕ) → i < length s / 2 → get_or (unhexed s) i 0 ≡ nibble_of (get_or s (2 * i) 0) * 16 + nibble_of (get_or s (2 * i + 1) 0)
unfolding unhexed
unhexed-at [] i h = absurd (omega arith)
unhexed-at (a ∷ []) i h = absurd (omega arith)
unhexed-at (a ∷ b ∷ s) zero h = refl
unhexed-at (a ∷ b ∷ s) (suc i) h =
    let e : 2 * suc i ≡ suc (suc (2 * i)) = omega arith in
    let f : 2 * suc i + 1 ≡ suc (suc (2 * i + 1)) = omega arith in
    unhexed-at s i (omega arith) ∙ sym (ap₂ (λ (j k : ℕ). nibble_of (get_or (a ∷ b ∷ s) j 0) * 16 + nibble_of (get_or (a ∷ b ∷ s) k 0)) e f)
