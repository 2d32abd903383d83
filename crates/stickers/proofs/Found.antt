-- What the loops of the reader find is what the definitions read. Assumes nothing.
use mathlib.Core.Path.{◌≡◌, sym, ap, ap₂, ◌∙◌}
use mathlib.Core.Bool.{Bool, true, false}
use mathlib.Core.List.{List}
use Prim.Native.Nat.{ℕ, ◌+◌, ◌/◌, ◌%◌, ◌≤◌}
use native.Mathlib.Omega.{arith}
use lib.Dec.{ltb}
use Rattle.base.specs.Lists.{pick}
use Rattle.stickers.specs.Reader.{is_ud, corner_fits, edge_fits, first_from, twist_seen, corner_seen, edge_seen, at_corner, at_edge, corner_read, twist_read, edge_read, flip_read}

pub twist-le : (x y t : ℕ) → t ≡ pick (is_ud x) 0 (pick (is_ud y) 1 2) → t ≤ 2
twist-le x y t e = go (is_ud x) (is_ud y) e
  where
    go : (p q : Bool) → t ≡ pick p 0 (pick q 1 2) → t ≤ 2
    go true q e = omega arith
    go false true e = omega arith
    go false false e = omega arith

-- corner i of s: x, y are the letters at its first two places, t the twist, a and b the letters after it, j the piece found
module _ (s : List ℕ) (i x y t a b j : ℕ) (ex : x ≡ at_corner s i 0) (ey : y ≡ at_corner s i 1) (et : t ≡ pick (is_ud x) 0 (pick (is_ud y) 1 2))
    (ea : a ≡ at_corner s i ((t + 1) % 3)) (eb : b ≡ at_corner s i ((t + 2) % 3)) (ej : j ≡ first_from (corner_fits a b) 0 8) where
  twist-is : t ≡ twist_seen (at_corner s i)
  unfolding twist_seen
  twist-is = et ∙ ap₂ (λ (v w : ℕ). pick (is_ud v) 0 (pick (is_ud w) 1 2)) ex ey

  corner-is : j ≡ corner_seen (at_corner s i)
  unfolding corner_seen
  corner-is =
      ej
      ∙ ap₂ (λ (v w : ℕ). first_from (corner_fits v w) 0 8) (ea ∙ ap (λ (k : ℕ). at_corner s i ((k + 1) % 3)) twist-is) (eb ∙ ap (λ (k : ℕ). at_corner s i ((k + 2) % 3)) twist-is)

  pub corner-chosen : pick (ltb j 8) j i ≡ corner_read s i
  unfolding corner_read
  corner-chosen = ap (λ (k : ℕ). pick (ltb k 8) k i) corner-is

  pub twist-chosen : pick (ltb j 8) t 0 ≡ twist_read s i
  unfolding twist_read
  twist-chosen = ap₂ (λ (k v : ℕ). pick (ltb k 8) v 0) corner-is twist-is

  -- a piece that is found goes to the place with the twist; where none is, the solved corner
  pub corner-placed : (b : Bool) → ltb j 8 ≡ b → ◌≡◌ {A = ℕ × ℕ} (pick b j i, pick b t 0) (corner_read s i, twist_read s i)
  corner-placed b e = ap (λ (q : Bool). (pick q j i, pick q t 0)) (sym e) ∙ ap₂ (λ (v w : ℕ). (v, w)) corner-chosen twist-chosen

-- edge i of s: a and b are the letters at its two places, k the way found
module _ (s : List ℕ) (i a b k : ℕ) (ea : a ≡ at_edge s i 0) (eb : b ≡ at_edge s i 1) (ek : k ≡ first_from (edge_fits a b) 0 24) where
  edge-is : k ≡ edge_seen (at_edge s i 0) (at_edge s i 1)
  unfolding edge_seen
  edge-is = ek ∙ ap₂ (λ (v w : ℕ). first_from (edge_fits v w) 0 24) ea eb

  pub edge-chosen : pick (ltb k 24) (k / 2) i ≡ edge_read s i
  unfolding edge_read
  edge-chosen = ap (λ (w : ℕ). pick (ltb w 24) (w / 2) i) edge-is

  pub flip-chosen : pick (ltb k 24) (k % 2) 0 ≡ flip_read s i
  unfolding flip_read
  flip-chosen = ap (λ (w : ℕ). pick (ltb w 24) (w % 2) 0) edge-is

  -- an edge that is found goes to the place with the flip; where none is, the solved edge
  pub edge-placed : (b : Bool) → ltb k 24 ≡ b → ◌≡◌ {A = ℕ × ℕ} (pick b (k / 2) i, pick b (k % 2) 0) (edge_read s i, flip_read s i)
  edge-placed b e = ap (λ (q : Bool). (pick q (k / 2) i, pick q (k % 2) 0)) (sym e) ∙ ap₂ (λ (v w : ℕ). (v, w)) edge-chosen flip-chosen
