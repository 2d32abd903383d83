-- A cube is in range exactly where its refusal is 0. Assumes nothing.
use mathlib.Core.Path.{◌≡◌, refl}
use mathlib.Core.Bool.{Bool, true, false, ◌&&◌}
use mathlib.Core.List.{List, [], ◌∷◌}
use Prim.Native.Nat.{ℕ, zero, ◌<◌, ◌-◌, ◌%◌}
use native.Mathlib.Omega.{arith}
use lib.ListN.{length}
use Rattle.base.specs.Lists.{pick, Under, in_range, total}
use Rattle.base.proofs.Tests.{and-true, in_range-under, under-in_range}
use Rattle.cubie.specs.Cube.{refusal_of, InRange}
use Rattle.cubie.specs.declared.CubieCube.{CubieCube}

pub ranges : (c : CubieCube) → refusal_of c ≡ 0 → Under 8 c.cp × Under 3 c.co × Under 12 c.ep × Under 2 c.eo
unfolding refusal_of
ranges c h = go (in_range 8 c.cp) (in_range 12 c.ep) (in_range 3 c.co && in_range 2 c.eo) refl refl refl h
  where
    go : (p q r : Bool) → in_range 8 c.cp ≡ p → in_range 12 c.ep ≡ q → in_range 3 c.co && in_range 2 c.eo ≡ r
        → pick p (pick q (pick r 0 6) 5) 4 ≡ zero → Under 8 c.cp × Under 3 c.co × Under 12 c.ep × Under 2 c.eo
    go true true true a b d e =
        let t = and-true (in_range 3 c.co) (in_range 2 c.eo) d in
        (in_range-under 8 c.cp a, in_range-under 3 c.co t.0, in_range-under 12 c.ep b, in_range-under 2 c.eo t.1)
    go true true false a b d e = absurd (omega arith)
    go true false r a b d e = absurd (omega arith)
    go false q r a b d e = absurd (omega arith)

pub in-range : (c : CubieCube) → refusal_of c ≡ 0 → length c.cp ≡ 8 → length c.co ≡ 8 → length c.ep ≡ 12 → length c.eo ≡ 12 → InRange c
in-range c h a b d e =
    let r = ranges c h in
    record { cp = record { size = a; small = r.0 }; co = record { size = b; small = r.1 }; ep = record { size = d; small = r.2 }; eo = record { size = e; small = r.3 } }

pub no-refusal : {c : CubieCube} → InRange c → refusal_of c ≡ 0
unfolding refusal_of
no-refusal {c} r =
    rw (under-in_range 8 c.cp r.cp.small, under-in_range 12 c.ep r.ep.small, under-in_range 3 c.co r.co.small, under-in_range 2 c.eo r.eo.small)

pub refusal-small : (c : CubieCube) → refusal_of c < 16
unfolding refusal_of
refusal-small c = go (in_range 8 c.cp) (in_range 12 c.ep) (in_range 3 c.co && in_range 2 c.eo)
  where
    go : (p q r : Bool) → pick p (pick q (pick r 0 6) 5) 4 < 16
    go true true true = omega arith
    go true true false = omega arith
    go true false r = omega arith
    go false q r = omega arith

-- what is left of a flip is the flip
pub flips : (xs : List ℕ) → Under 2 xs → total (λ x. (2 - x) % 2) xs ≡ total (λ x. x) xs
flips [] u = refl
flips (x ∷ xs) u = omega (arith, u.0, flips xs u.1)
