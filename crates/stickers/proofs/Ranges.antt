-- What is read is in range, whatever the stickers are. Assumes nothing.
use mathlib.Core.Path.{◌≡◌, refl}
use mathlib.Core.Bool.{Bool, true, false}
use mathlib.Core.List.{List}
use Prim.Native.Nat.{ℕ, ◌/◌, ◌%◌, ◌<◌}
use native.Mathlib.Omega.{arith}
use lib.Dec.{ltb}
use borrow.Author.Tests.{ltb-true}
use Rattle.base.specs.Lists.{pick}
use Rattle.base.proofs.Product.{map-range-length, map-range-under}
use Rattle.cubie.specs.Cube.{InRange}
use Rattle.stickers.specs.Reader.{is_ud, twist_seen, corner_seen, edge_seen, at_corner, at_edge, corner_read, twist_read, edge_read, flip_read, cube_read}

-- what is picked where j is below n, else
picked : (j n v w k : ℕ) → (j < n → v < k) → w < k → pick (ltb j n) v w < k
picked j n v w k h g = go (ltb j n) refl
  where
    go : (b : Bool) → ltb j n ≡ b → pick b v w < k
    go true e = h (ltb-true j n e)
    go false e = g

twist-lt : (f : ℕ → ℕ) → twist_seen f < 3
unfolding twist_seen
twist-lt f = go (is_ud (f 0)) (is_ud (f 1))
  where
    go : (p q : Bool) → pick p 0 (pick q 1 2) < 3
    go true q = omega arith
    go false true = omega arith
    go false false = omega arith

module _ (s : List ℕ) (i : ℕ) where
  corner-lt : i < 8 → corner_read s i < 8
  unfolding corner_read
  corner-lt h = picked (corner_seen (at_corner s i)) 8 (corner_seen (at_corner s i)) i 8 (λ l. l) h

  turn-lt : twist_read s i < 3
  unfolding twist_read
  turn-lt = picked (corner_seen (at_corner s i)) 8 (twist_seen (at_corner s i)) 0 3 (λ l. twist-lt (at_corner s i)) (omega arith)

  edge-lt : i < 12 → edge_read s i < 12
  unfolding edge_read
  edge-lt h = let e = edge_seen (at_edge s i 0) (at_edge s i 1) in picked e 24 (e / 2) i 12 (λ l. omega arith) h

  flip-lt : flip_read s i < 2
  unfolding flip_read
  flip-lt = let e = edge_seen (at_edge s i 0) (at_edge s i 1) in picked e 24 (e % 2) 0 2 (λ l. omega arith) (omega arith)

pub read-range : (s : List ℕ) → InRange (cube_read s)
unfolding cube_read
read-range s =
    record {
      cp = record { size = map-range-length (corner_read s) 8; small = map-range-under (corner_read s) 8 8 (corner-lt s) };
      co = record { size = map-range-length (twist_read s) 8; small = map-range-under (twist_read s) 8 3 (λ i h. turn-lt s i) };
      ep = record { size = map-range-length (edge_read s) 12; small = map-range-under (edge_read s) 12 12 (edge-lt s) };
      eo = record { size = map-range-length (flip_read s) 12; small = map-range-under (flip_read s) 12 2 (λ i h. flip-lt s i) };
    }
