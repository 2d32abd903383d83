-- The product of two solvable cubes is solvable, and each of the 18 moves keeps solvability. Assumes nothing.
use mathlib.Core.Path.{◌≡◌, refl, ◌∙◌}
use mathlib.Core.Bool.{Bool, true}
use mathlib.Core.List.{List, [], ◌∷◌}
use Prim.Native.Nat.{ℕ, ◌+◌, ◌-◌, ◌%◌, ◌<◌}
use native.Mathlib.Omega.{arith}
use lib.Dec.{eqb}
use borrow.Author.Tests.{eqb-true, eq-eqb}
use Rattle.base.specs.Lists.{all_below, Under}
use Rattle.base.specs.Parity.{put, swaps_from, swaps}
use Rattle.base.specs.Perm.{same, Perm, no_repeat}
use Rattle.base.specs.Product.{twisted}
use Rattle.base.proofs.Parity.{compose-perm, swaps-compose}
use Rattle.base.proofs.Product.{total-twisted}
use Rattle.base.proofs.Tests.{and-true, both_true, below_true, no_repeat-once, once-no_repeat}
use Rattle.cubie.specs.Cube.{InRange, product, solved_cube, quarter_turns, power, move_of, turn, apply_moves}
use Rattle.cubie.specs.Solvable.{corner_twist, edge_twist, solvable}
use Rattle.cubie.specs.declared.CubieCube.{CubieCube}
use Rattle.cubie.proofs.Turns.{move-range, turn-range}

-- the parts of the test, as statements
pub record Parts (c : CubieCube) : Type 0 where
  pub corners : Perm 8 c.cp
  pub edges : Perm 12 c.ep
  pub parity : swaps c.cp % 2 ≡ swaps c.ep % 2
  pub twists : corner_twist c % 3 ≡ 0
  pub flips : edge_twist c % 2 ≡ 0

pub solvable-parts : {c : CubieCube} → InRange c → solvable c ≡ true → Parts c
unfolding solvable
solvable-parts {c} r e =
    let p = and-true (no_repeat c.cp) _ e in
    let q = and-true (no_repeat c.ep) _ p.1 in
    let s = and-true (eqb (swaps c.cp % 2) (swaps c.ep % 2)) _ q.1 in
    let t = and-true (eqb (corner_twist c % 3) 0) _ s.1 in
    record {
      corners = record { size = r.cp.size; small = r.cp.small; once = no_repeat-once c.cp p.0 };
      edges = record { size = r.ep.size; small = r.ep.small; once = no_repeat-once c.ep q.0 };
      parity = eqb-true _ _ s.0;
      twists = eqb-true _ _ t.0;
      flips = eqb-true _ _ t.1;
    }

pub parts-solvable : {c : CubieCube} → Parts c → solvable c ≡ true
unfolding solvable
parts-solvable {c} p =
    both_true (once-no_repeat c.cp p.corners.once)
    (both_true (once-no_repeat c.ep p.edges.once) (both_true (eq-eqb _ _ p.parity) (both_true (eq-eqb _ 0 p.twists) (eq-eqb _ 0 p.flips))))

twists-add : (x y : ℕ) → x < 3 → y < 3 → (3 - (x + y) % 3) % 3 % 3 ≡ ((3 - x) % 3 + (3 - y) % 3) % 3
twists-add x y h k =
    let test : ℕ → ℕ → Bool = λ x y. eqb ((3 - (x + y) % 3) % 3 % 3) (((3 - x) % 3 + (3 - y) % 3) % 3) in
    eqb-true _ _ (below_true (test x) 3 (below_true (λ x. all_below (test x) 3) 3 refl x h) y k)

flips-add : (x y : ℕ) → x < 2 → y < 2 → (x + y) % 2 % 2 ≡ (x + y) % 2
flips-add x y h k = omega arith

product-parts : {a b : CubieCube} → InRange a → InRange b → Parts a → Parts b → Parts (product a b)
unfolding product
product-parts {a} {b} r s p q =
    record {
      corners = compose-perm p.corners q.corners;
      edges = compose-perm p.edges q.edges;
      parity = omega (arith, swaps-compose p.corners q.corners, swaps-compose p.edges q.edges, p.parity, q.parity);
      twists = total-twisted 3 (λ x. (3 - x) % 3) twists-add r.co q.corners s.co ∙ omega (arith, p.twists, q.twists);
      flips = total-twisted 2 (λ x. x) flips-add r.eo q.edges s.eo ∙ omega (arith, p.flips, q.flips);
    }

pub product-solvable : {a b : CubieCube} → InRange a → InRange b → solvable a ≡ true → solvable b ≡ true → solvable (product a b) ≡ true
product-solvable r s p q = parts-solvable (product-parts r s (solvable-parts r p) (solvable-parts s q))

pub solved-solvable : solvable solved_cube ≡ true
unfolding solvable solved_cube same put swaps_from
solved-solvable = refl

moves-solvable : all_below (λ m. solvable (move_of m)) 18 ≡ true
unfolding solvable move_of power product twisted quarter_turns solved_cube same put swaps_from
moves-solvable = refl

-- each of the 18 moves keeps solvability
pub turn-solvable : {c : CubieCube} → InRange c → solvable c ≡ true → (m : ℕ) → m < 18 → solvable (turn c m) ≡ true
turn-solvable r e m h = product-solvable r (move-range m h) e (below_true (λ k. solvable (move_of k)) 18 moves-solvable m h)

pub list-solvable : {c : CubieCube} → InRange c → solvable c ≡ true → (l : List ℕ) → Under 18 l → solvable (apply_moves c l) ≡ true
unfolding apply_moves
list-solvable r e [] u = e
list-solvable {c = c} r e (m ∷ l) u = list-solvable {c = turn c m} (turn-range r m u.0) (turn-solvable r e m u.0) l u.1
