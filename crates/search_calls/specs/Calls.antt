-- The search on lent memory: what a call returns, in one number, and what it leaves. Assumes nothing: these are definitions.
use Rattle.std.specs.Prelude.{Bool, ◌&&◌, List, ℕ, ◌+◌, ◌*◌, leb, eqb, length}
use Rattle.base.specs.Lists.{pick}
use Rattle.cubie.specs.Cube.{cube_of}
use Rattle.refusal.specs.Refusals.{number}
use Rattle.search.specs.Solve.{solve_of}
use Rattle.search.specs.declared.Found.{Found}
use Rattle.search.specs.declared.Found.TheVariants as found
use Rattle.search.specs.declared.Solution.{Solution}

-- the paper's number of each case, 0 for none, and which of the three others it is: 0 solved, 1 none, 2 spent
abbrev pub found_number : Found → ℕ
found_number found.Solved = 0
found_number found.Nothing = 0
found_number found.Spent = 0
found_number (found.Refused r) = number r

abbrev pub found_kind : Found → ℕ
found_kind found.Solved = 0
found_kind found.Nothing = 1
found_kind found.Spent = 2
found_kind (found.Refused r) = 0

-- the low byte is the paper's number, the next the kind, then a byte each for the lengths of the two lists; above them stands the count
abbrev pub packed : Solution → ℕ
packed s = found_number s.found + 256 * found_kind s.found + 65536 * s.n1 + 16777216 * s.n2 + 4294967296 * s.count

-- 40 bytes for the cube, and room for 31 moves in each list
abbrev pub fits : List ℕ → List ℕ → List ℕ → Bool
fits cube one two = eqb (length cube) 40 && (eqb (length one) 31 && eqb (length two) 31)

-- "Searching tests 9, then 10": the limit before the lengths
abbrev pub solve_number : List ℕ → ℕ → ℕ → List ℕ → List ℕ → List ℕ → List ℕ → ℕ
solve_number cube limit budget moves prunes one two =
    pick (leb limit 31) (pick (fits cube one two) (packed (solve_of (cube_of cube) limit budget moves prunes)) 10) 9

-- the lists are written where the cube is solved, and only there: "All but solved carry empty lists; unused places are 0"
abbrev pub list_left : Found → List ℕ → List ℕ → List ℕ
list_left found.Solved list before = list
list_left found.Nothing list before = before
list_left found.Spent list before = before
list_left (found.Refused r) list before = before

abbrev pub first_left : List ℕ → ℕ → ℕ → List ℕ → List ℕ → List ℕ → List ℕ → List ℕ
first_left cube limit budget moves prunes one two =
    pick (fits cube one two)
    (list_left (solve_of (cube_of cube) limit budget moves prunes).found (solve_of (cube_of cube) limit budget moves prunes).phase1 one) one

abbrev pub second_left : List ℕ → ℕ → ℕ → List ℕ → List ℕ → List ℕ → List ℕ → List ℕ
second_left cube limit budget moves prunes one two =
    pick (fits cube one two)
    (list_left (solve_of (cube_of cube) limit budget moves prunes).found (solve_of (cube_of cube) limit budget moves prunes).phase2 two) two
