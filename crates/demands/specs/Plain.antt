-- "The plain search of demand 3 has the same lengths, move orders, availability rule and ends, but turns the cube itself and has no tables,
-- no cut by distance and no budget." And what the demands about the search speak of. Assumes nothing: these are definitions.
use Rattle.std.specs.Prelude.{ℕ, ◌+◌, ◌-◌, ◌<◌, ◌≤◌, ◌≡◌, Bool, true, List, [], ◌∷◌, ◌++◌, length}
use Rattle.base.specs.Lists.{range, Under}
use Rattle.base.specs.Search.{Res, still, done, branch, deepen, enter, Plain, plain}
use Rattle.cubie.specs.Cube.{InRange, turn, apply_moves, is_home}
use Rattle.cubie.specs.Solvable.{solvable}
use Rattle.cubie.specs.declared.CubieCube.{CubieCube}
use Rattle.moves.specs.Moves.{is_available}
use Rattle.phase2_steps.specs.Rules.{Ans, solved, nothing, spent, refused, Shape, phase1, phase2, ends_of}
use Rattle.phase2_steps.specs.Second.{coords2}
use Rattle.phase1_steps.specs.First.{coords1, under, full_of}
use Rattle.pruning_table.specs.Check.{AllTrue}
use Rattle.search.specs.Solve.{first_list, second_list}
use Rattle.search.specs.declared.Found.TheVariants as found
use Rattle.search.specs.declared.Solution.{Solution}

-- "turns the cube itself": a position is the cube, the last move (18: none yet) and the moves so far
pub record Position : Type 0 where
  pub cube : CubieCube
  pub last : ℕ
  pub list : List ℕ

abbrev pub from : CubieCube → ℕ → Position
from c last = record { cube = c; last = last; list = [] }

-- "an end (no depth left, its three coordinates 0)": the cube's own coordinates, in phase 1 and in phase 2
unfoldable pub is_end1 : CubieCube → Bool
is_end1 c = ends_of (coords1 c)

unfoldable pub is_end2 : CubieCube → Bool
is_end2 c = ends_of (coords2 c)

-- "the same .. move orders, availability rule and ends": of the shape only the columns matter, in whose order the moves are tried
abbrev pub plain_of : {L : Type 0} → Shape → (CubieCube → Bool) → (Position → Unit {0} → Res (Ans L) (Unit {0})) → Plain (Ans L) ℕ Position
plain_of sh is_end finish =
    record {
      moves = range 0 sh.w;
      avail = λ y j. is_available y.last (sh.name j);
      go = λ y j. record { cube = turn y.cube (sh.name j); last = sh.name j; list = y.list ++ (sh.name j ∷ []) };
      ends = λ y. is_end y.cube;
      finish = finish;
    }

-- phase 2: the first end is the answer
abbrev pub plain2 : Plain (Ans (List ℕ)) ℕ Position
plain2 = plain_of phase2 is_end2 (λ y. done (solved y.list))

-- "A phase-1 end with n equal to the limit, n above 0, ends everything with none"; else, "at a phase-1 end of length n, phase 2 runs over
-- lengths 0 to limit - n - 1"
unfoldable pub plain_finish : ℕ → Position → Unit {0} → Res (Ans (List ℕ × List ℕ)) (Unit {0})
plain_finish limit y u =
    branch (full_of limit (length y.list)) (done nothing)
    (λ u. under (λ l. (y.list, l)) (deepen (λ d v. enter (plain plain2) d (from y.cube y.last) v) 0 (limit - length y.list) u)) u

abbrev pub plain1 : ℕ → Plain (Ans (List ℕ × List ℕ)) ℕ Position
plain1 limit = plain_of phase1 is_end1 (plain_finish limit)

-- "Phase-1 length runs from 0 to the limit": the whole
unfoldable pub plain_search : ℕ → CubieCube → Res (Ans (List ℕ × List ℕ)) (Unit {0})
plain_search limit c = deepen (λ d u. enter (plain (plain1 limit)) d (from c 18) u) 0 (limit + 1) tt

-- the two lists of an answer together
abbrev pub list_of : Solution → List ℕ
list_of r = first_list r ++ second_list r

-- an answer tells what the plain search tells: its two lists; or none, with empty lists, where the plain search found none at any length or
-- broke off with none. The plain search is never spent and refuses nothing
unfoldable pub SaysAs : Solution → Res (Ans (List ℕ × List ℕ)) (Unit {0}) → Type 0
SaysAs r (done (solved l) u) = (r.found ≡ found.Solved) × (first_list r ≡ l.0) × (second_list r ≡ l.1)
SaysAs r (still u) = (r.found ≡ found.Nothing) × (first_list r ≡ []) × (second_list r ≡ [])
SaysAs r (done nothing u) = (r.found ≡ found.Nothing) × (first_list r ≡ []) × (second_list r ≡ [])
SaysAs r (done spent u) = ⊥
SaysAs r (done refused u) = ⊥

-- "solvable cubes, limit 0 to 31, true tables"
pub record Within (cube : CubieCube) (limit : ℕ) (moves prunes : List ℕ) : Type 0 where
  pub range : InRange cube
  pub solvable : Rattle.cubie.specs.Solvable.solvable cube ≡ true
  pub most : limit ≤ 31
  pub tables : AllTrue moves prunes

-- no list of fewer moves than the limit solves the cube
abbrev pub NoneShorter : CubieCube → ℕ → Type 0
NoneShorter cube limit = (l : List ℕ) → Under 18 l → length l < limit → is_home (apply_moves cube l) ≡ true → ⊥
