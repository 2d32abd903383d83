-- The two readers. Assumes nothing: these are definitions.
use Rattle.std.specs.Prelude.{Bool, true, ◌&&◌, ◌||◌, List, [], ◌∷◌, map, ℕ, zero, suc, ◌+◌, ◌-◌, ◌*◌, ◌/◌, ◌%◌, eqb, ltb, length, get_or, Result}
use Rattle.base.specs.Lists.{pick, range, same_list}
use Rattle.refusal.specs.declared.Refusal.{Refusal}
use Rattle.refusal.specs.Refusals.{answered}
use Rattle.cubie.specs.Solvable.{solvable}
use Rattle.cubie.specs.declared.CubieCube.{CubieCube}
use Rattle.stickers.specs.Picture.{picture}
use Rattle.stickers.specs.Stickers.{corner_facelet, edge_facelet, corner_color, edge_color}

-- one of the letters U R F D L B
unfoldable pub is_color : ℕ → Bool
is_color x = eqb x 85 || (eqb x 82 || (eqb x 70 || (eqb x 68 || (eqb x 76 || eqb x 66))))

unfoldable pub all_colors : List ℕ → Bool
all_colors [] = true
all_colors (x ∷ xs) = is_color x && all_colors xs

-- the first of the m numbers from j on that passes, else the number after them
unfoldable pub first_from : (ℕ → Bool) → ℕ → ℕ → ℕ
first_from p j zero = j
first_from p j (suc m) = pick (p j) j (first_from p (suc j) m)

-- ---- a corner, by the letters at its three places: f k is that at place k, round the three

-- "the twist is the first of the three places that shows U or D, else 2"
abbrev pub is_ud : ℕ → Bool
is_ud x = eqb x 85 || eqb x 68

unfoldable pub twist_seen : (ℕ → ℕ) → ℕ
twist_seen f = pick (is_ud (f 0)) 0 (pick (is_ud (f 1)) 1 2)

-- "the two stickers after it, round the three, pick the corner. The U or D itself isn't compared."
abbrev pub corner_fits : ℕ → ℕ → ℕ → Bool
corner_fits a b j = eqb a (get_or corner_color (j * 3 + 1) 0) && eqb b (get_or corner_color (j * 3 + 2) 0)

unfoldable pub corner_seen : (ℕ → ℕ) → ℕ
corner_seen f = first_from (corner_fits (f ((twist_seen f + 1) % 3)) (f ((twist_seen f + 2) % 3))) 0 8

-- ---- an edge, by the letters a and b at its two places

-- way k is the edge k / 2, unflipped where k is even, else flipped
abbrev pub edge_fits : ℕ → ℕ → ℕ → Bool
edge_fits a b k = eqb a (get_or edge_color k 0) && eqb b (get_or edge_color (k / 2 * 2 + (1 - k % 2)) 0)

-- "Edges try each piece unflipped, then flipped; the first cubie that matches ends the look for that position"
unfoldable pub edge_seen : ℕ → ℕ → ℕ
edge_seen a b = first_from (edge_fits a b) 0 24

-- ---- the plain reader: `CubieCube::try_from(&FaceCube)`. "Nothing matches: the position keeps its solved piece, untwisted."

-- the letter at place k of corner i
abbrev pub at_corner : List ℕ → ℕ → ℕ → ℕ
at_corner s i k = get_or s (get_or corner_facelet (i * 3 + k) 0) 0

abbrev pub at_edge : List ℕ → ℕ → ℕ → ℕ
at_edge s i k = get_or s (get_or edge_facelet (i * 2 + k) 0) 0

unfoldable pub corner_read : List ℕ → ℕ → ℕ
corner_read s i = pick (ltb (corner_seen (at_corner s i)) 8) (corner_seen (at_corner s i)) i

unfoldable pub twist_read : List ℕ → ℕ → ℕ
twist_read s i = pick (ltb (corner_seen (at_corner s i)) 8) (twist_seen (at_corner s i)) 0

unfoldable pub edge_read : List ℕ → ℕ → ℕ
edge_read s i = pick (ltb (edge_seen (at_edge s i 0) (at_edge s i 1)) 24) (edge_seen (at_edge s i 0) (at_edge s i 1) / 2) i

unfoldable pub flip_read : List ℕ → ℕ → ℕ
flip_read s i = pick (ltb (edge_seen (at_edge s i 0) (at_edge s i 1)) 24) (edge_seen (at_edge s i 0) (at_edge s i 1) % 2) 0

unfoldable pub cube_read : List ℕ → CubieCube
cube_read s =
    record {
      cp = map (corner_read s) (range 0 8);
      co = map (twist_read s) (range 0 8);
      ep = map (edge_read s) (range 0 12);
      eo = map (flip_read s) (range 0 12);
    }

-- 1: not 54 bytes; 2: a byte outside U R F D L B; 3: the cube read isn't solvable; the lowest
unfoldable pub plain_refusal : List ℕ → ℕ
plain_refusal s = pick (eqb (length s) 54) (pick (all_colors s) (pick (solvable (cube_read s)) 0 3) 2) 1

abbrev pub read_plain : List ℕ → Result CubieCube Refusal
read_plain s = answered (plain_refusal s) (cube_read s)

-- the strict reader (added): 15 where the stickers differ from the picture of the cube read
unfoldable pub strict_refusal : List ℕ → ℕ
strict_refusal s = pick (eqb (plain_refusal s) 0) (pick (same_list (picture (cube_read s)) s) 0 15) (plain_refusal s)

abbrev pub read_strict : List ℕ → Result CubieCube Refusal
read_strict s = answered (strict_refusal s) (cube_read s)
