-- The product of cubes: it keeps the range, is associative, and has the solved cube as its unit. Assumes nothing.
use mathlib.Core.Path.{◌≡◌}
use native.Mathlib.Omega.{arith}
use mathlib.Core.Path.{sym, ◌∙◌}
use Rattle.base.specs.Lists.{range}
use Rattle.base.proofs.Product.{compose-assoc, twisted-assoc, compose-unit, twisted-unit, unit-compose, unit-twisted, compose-sized, twisted-sized}
use Rattle.cubie.specs.Cube.{InRange, product, solved_cube}
use Rattle.cubie.specs.declared.CubieCube.{CubieCube}

pub cube-path : {a b : CubieCube} → a.cp ≡ b.cp → a.co ≡ b.co → a.ep ≡ b.ep → a.eo ≡ b.eo → a ≡ b
cube-path p q r s = λ i. record { cp = p i; co = q i; ep = r i; eo = s i }

pub product-range : {a b : CubieCube} → InRange a → InRange b → InRange (product a b)
unfolding product
product-range {a} {b} x y =
    record {
      cp = compose-sized x.cp y.cp;
      co = twisted-sized a.co (omega arith) y.cp y.co;
      ep = compose-sized x.ep y.ep;
      eo = twisted-sized a.eo (omega arith) y.ep y.eo;
    }

pub product-assoc : (a : CubieCube) {b c : CubieCube} → InRange b → InRange c → product (product a b) c ≡ product a (product b c)
unfolding product
product-assoc a {b} {c} x y =
    cube-path (compose-assoc a.cp x.cp y.cp) (twisted-assoc a.co c.co x.cp x.co y.cp)
    (compose-assoc a.ep x.ep y.ep) (twisted-assoc a.eo c.eo x.ep x.eo y.ep)

pub product-solved : {c : CubieCube} → InRange c → product c solved_cube ≡ c
unfolding product solved_cube range
product-solved x = cube-path (compose-unit x.cp) (twisted-unit x.co) (compose-unit x.ep) (twisted-unit x.eo)

pub solved-product : {c : CubieCube} → InRange c → product solved_cube c ≡ c
unfolding product solved_cube range
solved-product {c} x =
    cube-path (unit-compose 8 c.cp x.cp.small) (unit-twisted 8 3 c.cp c.co (x.co.size ∙ sym x.cp.size) x.cp.small x.co.small)
    (unit-compose 12 c.ep x.ep.small) (unit-twisted 12 2 c.ep c.eo (x.eo.size ∙ sym x.ep.size) x.ep.small x.eo.small)
