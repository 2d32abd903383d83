-- The stickers of a cube: where each piece shows, and its colours. Faces stand in the order U R F D L B, nine stickers each, a letter a
-- sticker; a corner has three places, an edge two, and the tables hold them piece after piece. Assumes nothing: these are definitions.
use Rattle.std.specs.Prelude.{List, [], ◌∷◌, ℕ}

-- `CORNER_FACELET`, `EDGE_FACELET`: the sticker at each place of the corners UBL UBR UFR UFL DFL DFR DBR DBL and of the edges
-- BL BR FR FL UB UR UF UL DF DR DB DL
unfoldable pub corner_facelet : List ℕ
corner_facelet = 0 ∷ 36 ∷ 47 ∷ 2 ∷ 45 ∷ 11 ∷ 8 ∷ 9 ∷ 20 ∷ 6 ∷ 18 ∷ 38 ∷ 27 ∷ 44 ∷ 24 ∷ 29 ∷ 26 ∷ 15 ∷ 35 ∷ 17 ∷ 51 ∷ 33 ∷ 53 ∷ 42 ∷ []

unfoldable pub edge_facelet : List ℕ
edge_facelet = 50 ∷ 39 ∷ 48 ∷ 14 ∷ 23 ∷ 12 ∷ 21 ∷ 41 ∷ 1 ∷ 46 ∷ 5 ∷ 10 ∷ 7 ∷ 19 ∷ 3 ∷ 37 ∷ 28 ∷ 25 ∷ 32 ∷ 16 ∷ 34 ∷ 52 ∷ 30 ∷ 43 ∷ []

-- `CORNER_COLOR`, `EDGE_COLOR`: the letters of each corner and of each edge
unfoldable pub corner_color : List ℕ
corner_color = 85 ∷ 76 ∷ 66 ∷ 85 ∷ 66 ∷ 82 ∷ 85 ∷ 82 ∷ 70 ∷ 85 ∷ 70 ∷ 76 ∷ 68 ∷ 76 ∷ 70 ∷ 68 ∷ 70 ∷ 82 ∷ 68 ∷ 82 ∷ 66 ∷ 68 ∷ 66 ∷ 76 ∷ []

unfoldable pub edge_color : List ℕ
edge_color = 66 ∷ 76 ∷ 66 ∷ 82 ∷ 70 ∷ 82 ∷ 70 ∷ 76 ∷ 85 ∷ 66 ∷ 85 ∷ 82 ∷ 85 ∷ 70 ∷ 85 ∷ 76 ∷ 68 ∷ 70 ∷ 68 ∷ 82 ∷ 68 ∷ 66 ∷ 68 ∷ 76 ∷ []

-- `SOLVED_FACE_CUBE`
unfoldable pub solved_face : List ℕ
solved_face = 85 ∷ 85 ∷ 85 ∷ 85 ∷ 85 ∷ 85 ∷ 85 ∷ 85 ∷ 85 ∷ 82 ∷ 82 ∷ 82 ∷ 82 ∷ 82 ∷ 82 ∷ 82 ∷ 82 ∷ 82 ∷ 70 ∷ 70 ∷ 70 ∷ 70 ∷ 70 ∷ 70 ∷ 70 ∷ 70 ∷ 70 ∷ 68 ∷ 68 ∷ 68 ∷ 68 ∷ 68 ∷ 68 ∷ 68 ∷ 68 ∷ 68 ∷ 76 ∷ 76 ∷ 76 ∷ 76 ∷ 76 ∷ 76 ∷ 76 ∷ 76 ∷ 76 ∷ 66 ∷ 66 ∷ 66 ∷ 66 ∷ 66 ∷ 66 ∷ 66 ∷ 66 ∷ 66 ∷ []
