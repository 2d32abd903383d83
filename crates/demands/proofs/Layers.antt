-- The quarter turns of one layer add up modulo 4, and turns about one axis commute. The constants are tested by computing; the rest is the
-- product's laws. Assumes nothing.
use Prim.Native.Nat.{ℕ, zero, suc, ◌+◌, ◌*◌, ◌/◌, ◌%◌, ◌<◌}
use mathlib.Core.Path.{◌≡◌, refl, sym, ap, ◌∙◌}
use mathlib.Core.Bool.{Bool, true, false, not, ◌||◌}
use lib.Dec.{eqb}
use borrow.Author.Tests.{eq-eqb}
use Rattle.base.specs.Lists.{all_below, same_list}
use Rattle.base.specs.Product.{twisted}
use Rattle.base.proofs.Tests.{below_true}
use Rattle.cubie.specs.Cube.{InRange, product, solved_cube, quarter_turns, power, move_of, turn, same_cube}
use Rattle.cubie.specs.declared.CubieCube.{CubieCube}
use Rattle.cubie.proofs.Product.{product-assoc, product-solved}
use Rattle.cubie.proofs.Turns.{same-is, move-range}

-- a quarter turns of the layer f: none, or the move of so many
abbrev pub quarters : CubieCube → ℕ → ℕ → CubieCube
quarters c f zero = c
quarters c f (suc a) = turn c (f * 3 + a)

spin : ℕ → ℕ → CubieCube
spin f zero = solved_cube
spin f (suc a) = move_of (f * 3 + a)

adds : ℕ → ℕ → Bool
adds m n = same_cube (product (move_of m) (move_of n)) (spin (m / 3) ((m % 3 + n % 3 + 2) % 4))

commute : ℕ → ℕ → Bool
commute m n = same_cube (product (move_of m) (move_of n)) (product (move_of n) (move_of m))

-- q of all pairs of moves with m / d ≡ n / d
abbrev pairs : ℕ → (ℕ → ℕ → Bool) → Bool
pairs d q = all_below (λ m. all_below (λ n. not (eqb (m / d) (n / d)) || q m n) 18) 18

layers-add : pairs 3 adds ≡ true
unfolding same_list same_cube adds spin twisted product solved_cube quarter_turns power move_of
layers-add = refl

axes-commute : pairs 6 commute ≡ true
unfolding same_list same_cube commute twisted product solved_cube quarter_turns power move_of
axes-commute = refl

pair_is : (d : ℕ) (q : ℕ → ℕ → Bool) → pairs d q ≡ true → (m n : ℕ) → m < 18 → n < 18 → m / d ≡ n / d → q m n ≡ true
pair_is d q a m n h k e =
    go (eqb (m / d) (n / d)) (eq-eqb (m / d) (n / d) e)
    (below_true (λ n. not (eqb (m / d) (n / d)) || q m n) 18 (below_true (λ m. all_below (λ n. not (eqb (m / d) (n / d)) || q m n) 18) 18 a m h) n k)
  where
    go : (b : Bool) → b ≡ true → not b || q m n ≡ true → q m n ≡ true
    go true e h = h
    go false e h = let z : false ≡ true = e in cc

module _ {c : CubieCube} (r : InRange c) (m n : ℕ) (h : m < 18) (k : n < 18) where
  spin-is : (f a : ℕ) → product c (spin f a) ≡ quarters c f a
  unfolding spin
  spin-is f zero = product-solved r
  spin-is f (suc a) = refl

  -- of one layer
  pub again : m / 3 ≡ n / 3 → turn (turn c m) n ≡ quarters c (m / 3) ((m % 3 + n % 3 + 2) % 4)
  unfolding adds
  again e =
      product-assoc c (move-range m h) (move-range n k)
      ∙ ap (product c) (same-is _ _ (pair_is 3 adds layers-add m n h k e))
      ∙ spin-is (m / 3) ((m % 3 + n % 3 + 2) % 4)

  -- about one axis
  pub across : m / 6 ≡ n / 6 → turn (turn c m) n ≡ turn (turn c n) m
  unfolding commute
  across e =
      product-assoc c (move-range m h) (move-range n k)
      ∙ ap (product c) (same-is _ _ (pair_is 6 commute axes-commute m n h k e))
      ∙ sym (product-assoc c (move-range n k) (move-range m h))
