-- The paper's starred examples as one table: what is asked, and what the paper says. Assumes nothing: these are definitions.
use Rattle.std.specs.Prelude.{ℕ, Bool, true, ◌&&◌, List, [], ◌∷◌, ◌++◌, replicate, set, Result}
use Rattle.base.specs.Lists.{same_list, times}
use Rattle.refusal.specs.declared.Refusal.{Refusal}
use Rattle.refusal.specs.Refusals.{value_or}
use Rattle.cubie.specs.Cube.{bytes_of, solved_cube, turn, apply_moves}
use Rattle.cubie.specs.declared.CubieCube.{CubieCube}
use Rattle.stickers.specs.Picture.{picture}
use Rattle.stickers.specs.Reader.{plain_refusal, strict_refusal, read_plain, read_strict}
use Rattle.stickers.specs.Stickers.{solved_face}
use Rattle.numbering.specs.Coordinates.{co_of, eo_of, cp_of}
use Rattle.numbering.specs.Kinds.{co, eo, e_combo, cp, ud_ep, e_ep, ep, coordinate}

pub record Example : Type 0 where
  pub asked : List ℕ
  pub said : List ℕ

abbrev is : List ℕ → List ℕ → Example
is asked said = record { asked = asked; said = said }

-- the coordinates that an example speaks of
abbrev seven_of : CubieCube → List ℕ
seven_of c = coordinate co c ∷ coordinate eo c ∷ coordinate e_combo c ∷ coordinate cp c ∷ coordinate ud_ep c ∷ coordinate e_ep c ∷ coordinate ep c ∷ []

abbrev phase1_of : CubieCube → List ℕ
phase1_of c = coordinate co c ∷ coordinate eo c ∷ coordinate e_combo c ∷ []

abbrev phase2_of : CubieCube → List ℕ
phase2_of c = coordinate cp c ∷ coordinate ud_ep c ∷ coordinate e_ep c ∷ []

-- the cube that a reader gives, and the solved one beside a refusal
abbrev cube_in : Result CubieCube Refusal → CubieCube
cube_in = value_or solved_cube

-- what a reader answers: the refusal's number, 0 where there is none, and the cube's bytes
abbrev plainly : List ℕ → List ℕ
plainly s = plain_refusal s ∷ bytes_of (cube_in (read_plain s))

abbrev strictly : List ℕ → List ℕ
strictly s = strict_refusal s ∷ bytes_of (cube_in (read_strict s))

-- with the solved cube beside it
abbrev number : ℕ → List ℕ
number n = n ∷ bytes_of solved_cube

-- moves 0, 6 and 12 are U, R and F, 8 and 2 are R' and U'; the letters U R F D L B are 85 82 70 68 76 66
unfoldable pub examples : List Example
examples =
    -- solved picture: all coordinates 0
    is (seven_of (cube_in (read_strict solved_face))) (replicate 7 0)
    -- and no refusal
    ∷ is (strict_refusal solved_face ∷ []) (0 ∷ [])
    -- after U: cp 15120, ud_ep 15120, e_ep 0
    ∷ is (phase2_of (turn solved_cube 0)) (15120 ∷ 15120 ∷ 0 ∷ [])
    -- after R: co 410, eo 0, e_combo 139
    ∷ is (phase1_of (turn solved_cube 6)) (410 ∷ 0 ∷ 139 ∷ [])
    -- after F: co 150, eo 404, e_combo 90
    ∷ is (phase1_of (turn solved_cube 12)) (150 ∷ 404 ∷ 90 ∷ [])
    -- co 2186 is 2,2,2,2,2,2,2,1; eo 2047 is twelve ones; cp 40319 is 7 down to 0
    ∷ is (co_of 2186) (2 ∷ 2 ∷ 2 ∷ 2 ∷ 2 ∷ 2 ∷ 2 ∷ 1 ∷ [])
    ∷ is (eo_of 2047) (replicate 12 1)
    ∷ is (cp_of 40319) (7 ∷ 6 ∷ 5 ∷ 4 ∷ 3 ∷ 2 ∷ 1 ∷ 0 ∷ [])
    -- R U R' U' six times: solved
    ∷ is (bytes_of (apply_moves solved_cube (times 6 (λ l. 6 ∷ 0 ∷ 8 ∷ 2 ∷ l) []))) (bytes_of solved_cube)
    -- picture after U: UUUUUUUUU BBBRRRRRR RRRFFFFFF DDDDDDDDD FFFLLLLLL LLLBBBBBB
    ∷ is (picture (turn solved_cube 0))
    (replicate 9 85 ++ replicate 3 66 ++ replicate 9 82 ++ replicate 6 70 ++ replicate 9 68 ++ replicate 3 70 ++ replicate 9 76 ++ replicate 6 66)
    -- 54 times U: plain reader gives the solved cube; strict 15
    ∷ is (plainly (replicate 54 85)) (number 0)
    ∷ is (strictly (replicate 54 85)) (number 15)
    -- solved with byte 0 changed to D or R: plain solved; strict 15
    ∷ is (plainly (set solved_face 0 68)) (number 0)
    ∷ is (strictly (set solved_face 0 68)) (number 15)
    ∷ is (plainly (set solved_face 0 82)) (number 0)
    ∷ is (strictly (set solved_face 0 82)) (number 15)
    -- to F: 3 from both
    ∷ is (plainly (set solved_face 0 70)) (number 3)
    ∷ is (strictly (set solved_face 0 70)) (number 3)
    ∷ []

-- each is as the paper says
unfoldable pub all_as_said : List Example → Bool
all_as_said [] = true
all_as_said (e ∷ es) = same_list e.asked e.said && all_as_said es
