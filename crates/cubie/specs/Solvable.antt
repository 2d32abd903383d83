-- The four counts of cubie.rs, and what is solvable. Assumes nothing: these are definitions.
use Rattle.std.specs.Prelude.{Bool, ◌&&◌, ℕ, ◌-◌, ◌%◌, eqb}
use Rattle.base.specs.Lists.{total}
use Rattle.base.specs.Parity.{swaps}
use Rattle.base.specs.Perm.{no_repeat}
use Rattle.cubie.specs.declared.CubieCube.{CubieCube}

-- `count_corner_twist`: the twists that each corner still needs
abbrev pub corner_twist : CubieCube → ℕ
corner_twist c = total (λ x. (3 - x) % 3) c.co

-- `count_edge_twist`
abbrev pub edge_twist : CubieCube → ℕ
edge_twist c = total (λ x. x) c.eo

-- `count_corner_perm`, `count_edge_perm`: the swaps of the selection loop
abbrev pub corner_perm : CubieCube → ℕ
corner_perm c = swaps c.cp

abbrev pub edge_perm : CubieCube → ℕ
edge_perm c = swaps c.ep

-- "Solvable: no corner and no edge twice, corner and edge arrangements of equal parity, twists summing to 0 modulo 3, flips to 0 modulo 2"
unfoldable pub solvable : CubieCube → Bool
solvable c =
    no_repeat c.cp
    && (no_repeat c.ep && (eqb (corner_perm c % 2) (edge_perm c % 2) && (eqb (corner_twist c % 3) 0 && eqb (edge_twist c % 2) 0)))
