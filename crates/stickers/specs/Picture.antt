-- The picture of a cube: its 54 stickers. Assumes nothing: these are definitions.
use Rattle.std.specs.Prelude.{List, [], ◌∷◌, map, ℕ, ◌+◌, ◌-◌, ◌*◌, ◌/◌, ◌%◌, get_or, set, Result}
use Rattle.base.specs.Lists.{range}
use Rattle.refusal.specs.declared.Refusal.{Refusal}
use Rattle.refusal.specs.Refusals.{answered}
use Rattle.cubie.specs.Answers.{solvable_refusal}
use Rattle.cubie.specs.declared.CubieCube.{CubieCube}
use Rattle.stickers.specs.Stickers.{corner_facelet, edge_facelet, corner_color, edge_color, solved_face}

-- each place gets its letter
unfoldable pub paint : List ℕ → List ℕ → List ℕ → List ℕ
paint [] xs face = face
paint (p ∷ ps) [] face = face
paint (p ∷ ps) (x ∷ xs) face = paint ps xs (set face p x)

-- the letter at place k of pieces with n places each: p are the pieces, t their turns; a turn takes the letters one place on (of two
-- places, one on is one back)
abbrev pub shown_at : ℕ → List ℕ → List ℕ → List ℕ → ℕ → ℕ
shown_at n colors p t k = get_or colors (get_or p (k / n) 0 * n + (k % n + (n - get_or t (k / n) 0)) % n) 0

abbrev pub shown : ℕ → List ℕ → List ℕ → List ℕ → List ℕ
shown n colors p t = map (shown_at n colors p t) (range 0 24)

-- `FaceCube::try_from(&CubieCube)`: the corners' letters, then the edges', on the solved stickers, so that the centres stand
unfoldable pub picture : CubieCube → List ℕ
picture c = paint edge_facelet (shown 2 edge_color c.ep c.eo) (paint corner_facelet (shown 3 corner_color c.cp c.co) solved_face)

-- 4, 5, 6 by range, and "6 .. for a picture .. a cube that isn't solvable"
abbrev pub picture_answer : CubieCube → Result (List ℕ) Refusal
picture_answer c = answered (solvable_refusal c) (picture c)
