-- A picture has nothing but the six letters. Assumes nothing.
use mathlib.Core.Path.{◌≡◌, refl}
use mathlib.Core.Bool.{true}
use mathlib.Core.List.{List, [], ◌∷◌, map}
use Prim.Native.Nat.{ℕ, zero, suc, ◌+◌, ◌-◌, ◌*◌, ◌/◌, ◌%◌, ◌<◌}
use native.Mathlib.Omega.{arith}
use lib.ListN.{get_or, set}
use Rattle.base.specs.Lists.{all_below, range}
use Rattle.base.proofs.Tests.{and-true, both_true, below_true, under_at}
use Rattle.cubie.specs.Cube.{InRange}
use Rattle.cubie.specs.declared.CubieCube.{CubieCube}
use Rattle.stickers.specs.Picture.{paint, shown_at, shown, picture}
use Rattle.stickers.specs.Reader.{is_color, all_colors}
use Rattle.stickers.specs.Stickers.{corner_facelet, edge_facelet, corner_color, edge_color, solved_face}

set-colors : (l : List ℕ) (i x : ℕ) → all_colors l ≡ true → is_color x ≡ true → all_colors (set l i x) ≡ true
unfolding all_colors
set-colors [] i x a b = refl
set-colors (y ∷ l) zero x a b = both_true b (and-true (is_color y) (all_colors l) a).1
set-colors (y ∷ l) (suc i) x a b = let t = and-true (is_color y) (all_colors l) a in both_true t.0 (set-colors l i x t.1 b)

paint-colors : (ps xs face : List ℕ) → all_colors xs ≡ true → all_colors face ≡ true → all_colors (paint ps xs face) ≡ true
unfolding paint all_colors
paint-colors [] xs face a b = b
paint-colors (p ∷ ps) [] face a b = b
paint-colors (p ∷ ps) (x ∷ xs) face a b = let t = and-true (is_color x) (all_colors xs) a in paint-colors ps xs (set face p x) t.1 (set-colors face p x b t.0)

map-colors : (f : ℕ → ℕ) (m n : ℕ) → ((i : ℕ) → i < m + n → is_color (f i) ≡ true) → all_colors (map f (range m n)) ≡ true
unfolding all_colors range
map-colors f m zero h = refl
map-colors f m (suc n) h = both_true (h m (omega arith)) (map-colors f (suc m) n (λ i l. h i (omega arith)))

corner-colors : all_below (λ k. is_color (get_or corner_color k 0)) 24 ≡ true
unfolding is_color corner_color
corner-colors = refl

edge-colors : all_below (λ k. is_color (get_or edge_color k 0)) 24 ≡ true
unfolding is_color edge_color
edge-colors = refl

solved-colors : all_colors solved_face ≡ true
unfolding is_color all_colors solved_face
solved-colors = refl

pub picture-colors : (c : CubieCube) → InRange c → all_colors (picture c) ≡ true
unfolding picture
picture-colors c r =
    paint-colors edge_facelet (shown 2 edge_color c.ep c.eo) (paint corner_facelet (shown 3 corner_color c.cp c.co) solved_face) edges
    (paint-colors corner_facelet (shown 3 corner_color c.cp c.co) solved_face corners solved-colors)
  where
    corners : all_colors (shown 3 corner_color c.cp c.co) ≡ true
    corners =
        map-colors (shown_at 3 corner_color c.cp c.co) 0 24
        (λ k h. below_true (λ k. is_color (get_or corner_color k 0)) 24 corner-colors (get_or c.cp (k / 3) 0 * 3 + (k % 3 + (3 - get_or c.co (k / 3) 0)) % 3)
        (omega (arith, under_at 8 c.cp (k / 3) r.cp.small (omega (arith, r.cp.size)))))

    edges : all_colors (shown 2 edge_color c.ep c.eo) ≡ true
    edges =
        map-colors (shown_at 2 edge_color c.ep c.eo) 0 24
        (λ k h. below_true (λ k. is_color (get_or edge_color k 0)) 24 edge-colors (get_or c.ep (k / 2) 0 * 2 + (k % 2 + (2 - get_or c.eo (k / 2) 0)) % 2)
        (omega (arith, under_at 12 c.ep (k / 2) r.ep.small (omega (arith, r.ep.size)))))
