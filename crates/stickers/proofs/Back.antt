-- The picture of a cube is read back as that cube: what is about single pieces is computed once, over pieces and turns. Assumes nothing.
use mathlib.Core.Path.{◌≡◌, refl, sym, ap, ap₂, ◌∙◌}
use mathlib.Core.Bool.{Bool, true, ◌&&◌}
use mathlib.Core.List.{List}
use Prim.Native.Nat.{ℕ, ◌+◌, ◌-◌, ◌*◌, ◌/◌, ◌%◌, ◌<◌}
use native.Mathlib.Nat.{mod-lt, zero-lt-suc}
use native.Mathlib.Omega.{arith}
use lib.Dec.{eqb, ltb}
use lib.ListN.{length, get_or}
use borrow.Author.Tests.{eqb-true, lt-ltb}
use Rattle.base.specs.Lists.{pick, all_below}
use Rattle.base.specs.Perm.{same, count, no_repeat}
use Rattle.base.proofs.Product.{map-range-at, map-range-length, map-range-is}
use Rattle.base.proofs.Tests.{and-true, below_true, no_repeat-once, under_at}
use Rattle.cubie.specs.Cube.{InRange}
use Rattle.cubie.specs.declared.CubieCube.{CubieCube}
use Rattle.cubie.proofs.Product.{cube-path}
use Rattle.stickers.specs.Picture.{paint, shown_at, shown, picture}
use Rattle.stickers.specs.Reader.{is_ud, first_from, corner_fits, twist_seen, corner_seen, edge_seen, at_corner, at_edge, corner_read, twist_read, edge_read, flip_read, cube_read}
use Rattle.stickers.specs.Stickers.{corner_facelet, edge_facelet, corner_color, edge_color, solved_face}
use Rattle.stickers.proofs.Paint.{paint-other, paint-at, paint-length}
use Rattle.stickers.proofs.Places.{corner-places, edge_places}

-- ---- what stands where in a picture

-- no sticker is a corner's and an edge's, and none is that of two places
apart : all_below (λ k. eqb (count (get_or corner_facelet k 0) edge_facelet) 0) 24 ≡ true
unfolding same corner_facelet edge_facelet
apart = refl

corner-once : no_repeat corner_facelet ≡ true
unfolding same corner_facelet
corner-once = refl

edge-once : no_repeat edge_facelet ≡ true
unfolding same edge_facelet
edge-once = refl

solved-length : length solved_face ≡ 54
unfolding solved_face
solved-length = refl

module _ (c : CubieCube) where
  corner-shown : (k : ℕ) → k < 24 → get_or (picture c) (get_or corner_facelet k 0) 0 ≡ shown_at 3 corner_color c.cp c.co k
  unfolding picture
  corner-shown k h =
      let f = shown_at 3 corner_color c.cp c.co in
      let xs = shown 3 corner_color c.cp c.co in
      paint-other edge_facelet (shown 2 edge_color c.ep c.eo) (paint corner_facelet xs solved_face) (get_or corner_facelet k 0)
      (eqb-true (count (get_or corner_facelet k 0) edge_facelet) 0 (below_true (λ k. eqb (count (get_or corner_facelet k 0) edge_facelet) 0) 24 apart k h))
      ∙ paint-at corner_facelet xs solved_face k (omega (arith, corner-places.0)) (map-range-length f 24 ∙ sym corner-places.0)
      (rw solved-length corner-places.1) (no_repeat-once corner_facelet corner-once)
      ∙ map-range-at f 24 k h

  edge-shown : (k : ℕ) → k < 24 → get_or (picture c) (get_or edge_facelet k 0) 0 ≡ shown_at 2 edge_color c.ep c.eo k
  unfolding picture
  edge-shown k h =
      let f = shown_at 2 edge_color c.ep c.eo in
      let face = paint corner_facelet (shown 3 corner_color c.cp c.co) solved_face in
      let size : length face ≡ 54 = paint-length corner_facelet (shown 3 corner_color c.cp c.co) solved_face ∙ solved-length in
      paint-at edge_facelet (shown 2 edge_color c.ep c.eo) face k (omega (arith, edge_places.0)) (map-range-length f 24 ∙ sym edge_places.0)
      (rw size edge_places.1) (no_repeat-once edge_facelet edge-once)
      ∙ map-range-at f 24 k h

  pub picture-length : length (picture c) ≡ 54
  unfolding picture
  picture-length =
      paint-length edge_facelet (shown 2 edge_color c.ep c.eo) (paint corner_facelet (shown 3 corner_color c.cp c.co) solved_face)
      ∙ paint-length corner_facelet (shown 3 corner_color c.cp c.co) solved_face ∙ solved-length

-- ---- one corner, one edge

-- the letter of a piece p with turn t at its place k of n
letter : ℕ → List ℕ → ℕ → ℕ → ℕ → ℕ
letter n colors p t k = get_or colors (p * n + (k + (n - t)) % n) 0

corner-back : ℕ → ℕ → Bool
corner-back p t = eqb (twist_seen (letter 3 corner_color p t)) t && eqb (corner_seen (letter 3 corner_color p t)) p

corners-back : all_below (λ p. all_below (corner-back p) 3) 8 ≡ true
unfolding corner-back letter twist_seen corner_seen first_from corner_color
corners-back = refl

edge-back : ℕ → ℕ → Bool
edge-back p t = eqb (edge_seen (letter 2 edge_color p t 0) (letter 2 edge_color p t 1)) (p * 2 + t)

edges-back : all_below (λ p. all_below (edge-back p) 2) 12 ≡ true
unfolding edge-back letter edge_seen first_from edge_color
edges-back = refl

corner-back-is : (p t : ℕ) → p < 8 → t < 3 → (twist_seen (letter 3 corner_color p t) ≡ t) × (corner_seen (letter 3 corner_color p t) ≡ p)
unfolding corner-back
corner-back-is p t h k =
    let a = and-true (eqb (twist_seen (letter 3 corner_color p t)) t) _ (below_true (corner-back p) 3 (below_true (λ p. all_below (corner-back p) 3) 8 corners-back p h) t k) in
    (eqb-true _ _ a.0, eqb-true _ _ a.1)

edge-back-is : (p t : ℕ) → p < 12 → t < 2 → edge_seen (letter 2 edge_color p t 0) (letter 2 edge_color p t 1) ≡ p * 2 + t
unfolding edge-back
edge-back-is p t h k = eqb-true _ _ (below_true (edge-back p) 2 (below_true (λ p. all_below (edge-back p) 2) 12 edges-back p h) t k)

-- ---- what is seen depends on the three letters alone

module _ (f g : ℕ → ℕ) (e : (k : ℕ) → k < 3 → f k ≡ g k) where
  twist-same : twist_seen f ≡ twist_seen g
  unfolding twist_seen
  twist-same = ap₂ (λ (v w : ℕ). pick (is_ud v) 0 (pick (is_ud w) 1 2)) (e 0 (omega arith)) (e 1 (omega arith))

  corner-same : corner_seen f ≡ corner_seen g
  unfolding corner_seen
  corner-same =
      ap₂ (λ (v w : ℕ). first_from (corner_fits v w) 0 8) (after 1) (after 2)
    where
      after : (j : ℕ) → f ((twist_seen f + j) % 3) ≡ g ((twist_seen g + j) % 3)
      after j = e ((twist_seen f + j) % 3) (mod-lt (twist_seen f + j) (zero-lt-suc 2)) ∙ ap (λ (t : ℕ). g ((t + j) % 3)) twist-same

-- ---- the whole cube

module _ (c : CubieCube) (r : InRange c) where
  corner-letters : (i : ℕ) → i < 8 → (k : ℕ) → k < 3 → at_corner (picture c) i k ≡ letter 3 corner_color (get_or c.cp i 0) (get_or c.co i 0) k
  unfolding letter
  corner-letters i h k l =
      let d : (i * 3 + k) / 3 ≡ i = omega arith in
      let m : (i * 3 + k) % 3 ≡ k = omega arith in
      corner-shown c (i * 3 + k) (omega arith)
      ∙ ap₂ (λ (a b : ℕ). get_or corner_color (get_or c.cp a 0 * 3 + (b + (3 - get_or c.co a 0)) % 3) 0) d m

  edge-letters : (i : ℕ) → i < 12 → (k : ℕ) → k < 2 → at_edge (picture c) i k ≡ letter 2 edge_color (get_or c.ep i 0) (get_or c.eo i 0) k
  unfolding letter
  edge-letters i h k l =
      let d : (i * 2 + k) / 2 ≡ i = omega arith in
      let m : (i * 2 + k) % 2 ≡ k = omega arith in
      edge-shown c (i * 2 + k) (omega arith)
      ∙ ap₂ (λ (a b : ℕ). get_or edge_color (get_or c.ep a 0 * 2 + (b + (2 - get_or c.eo a 0)) % 2) 0) d m

  module _ (i : ℕ) where
    seen-corner : i < 8 → (twist_seen (at_corner (picture c) i) ≡ get_or c.co i 0) × (corner_seen (at_corner (picture c) i) ≡ get_or c.cp i 0)
    seen-corner h =
        let p = under_at 8 c.cp i r.cp.small (omega (arith, r.cp.size)) in
        let t = under_at 3 c.co i r.co.small (omega (arith, r.co.size)) in
        let b = corner-back-is (get_or c.cp i 0) (get_or c.co i 0) p t in
        let f = letter 3 corner_color (get_or c.cp i 0) (get_or c.co i 0) in
        (twist-same (at_corner (picture c) i) f (corner-letters i h) ∙ b.0, corner-same (at_corner (picture c) i) f (corner-letters i h) ∙ b.1)

    corner-read : i < 8 → corner_read (picture c) i ≡ get_or c.cp i 0
    unfolding corner_read
    corner-read h =
        let s = (seen-corner h).1 in
        ap (λ (j : ℕ). pick (ltb j 8) j i) s ∙ ap (λ (b : Bool). pick b (get_or c.cp i 0) i) (lt-ltb _ 8 (under_at 8 c.cp i r.cp.small (omega (arith, r.cp.size))))

    twist-read : i < 8 → twist_read (picture c) i ≡ get_or c.co i 0
    unfolding twist_read
    twist-read h =
        let s = seen-corner h in
        ap₂ (λ (j t : ℕ). pick (ltb j 8) t 0) s.1 s.0
        ∙ ap (λ (b : Bool). pick b (get_or c.co i 0) 0) (lt-ltb _ 8 (under_at 8 c.cp i r.cp.small (omega (arith, r.cp.size))))

    seen-edge : i < 12 → edge_seen (at_edge (picture c) i 0) (at_edge (picture c) i 1) ≡ get_or c.ep i 0 * 2 + get_or c.eo i 0
    seen-edge h =
        ap₂ edge_seen (edge-letters i h 0 (omega arith)) (edge-letters i h 1 (omega arith))
        ∙ edge-back-is (get_or c.ep i 0) (get_or c.eo i 0) (under_at 12 c.ep i r.ep.small (omega (arith, r.ep.size))) (under_at 2 c.eo i r.eo.small (omega (arith, r.eo.size)))

    way-is : i < 12 → (ltb (get_or c.ep i 0 * 2 + get_or c.eo i 0) 24 ≡ true) × ((get_or c.ep i 0 * 2 + get_or c.eo i 0) / 2 ≡ get_or c.ep i 0) × ((get_or c.ep i 0 * 2 + get_or c.eo i 0) % 2 ≡ get_or c.eo i 0)
    way-is h =
        let p = under_at 12 c.ep i r.ep.small (omega (arith, r.ep.size)) in
        let t = under_at 2 c.eo i r.eo.small (omega (arith, r.eo.size)) in
        (lt-ltb (get_or c.ep i 0 * 2 + get_or c.eo i 0) 24 (omega arith), omega arith, omega arith)

    edge-read : i < 12 → edge_read (picture c) i ≡ get_or c.ep i 0
    unfolding edge_read
    edge-read h =
        let w = way-is h in
        ap (λ (j : ℕ). pick (ltb j 24) (j / 2) i) (seen-edge h) ∙ ap₂ (λ (b : Bool) (v : ℕ). pick b v i) w.0 w.1

    flip-read : i < 12 → flip_read (picture c) i ≡ get_or c.eo i 0
    unfolding flip_read
    flip-read h =
        let w = way-is h in
        ap (λ (j : ℕ). pick (ltb j 24) (j % 2) 0) (seen-edge h) ∙ ap₂ (λ (b : Bool) (v : ℕ). pick b v 0) w.0 w.2

  -- the picture of a cube in range is read as that cube
  pub read_back : cube_read (picture c) ≡ c
  unfolding cube_read
  read_back =
      cube-path (map-range-is (corner_read (picture c)) 8 c.cp r.cp.size corner-read) (map-range-is (twist_read (picture c)) 8 c.co r.co.size twist-read)
      (map-range-is (edge_read (picture c)) 12 c.ep r.ep.size edge-read) (map-range-is (flip_read (picture c)) 12 c.eo r.eo.size flip-read)
