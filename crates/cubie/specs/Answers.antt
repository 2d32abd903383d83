-- What the public functions on cubes answer: a value, or a refusal by its number. Assumes nothing: these are definitions.
use Rattle.std.specs.Prelude.{Bool, List, ℕ, eqb, Result}
use Rattle.base.specs.Lists.{pick}
use Rattle.refusal.specs.declared.Refusal.{Refusal}
use Rattle.refusal.specs.Refusals.{answered}
use Rattle.moves.specs.Answers.{lowest_of, first_of}
use Rattle.moves.specs.Moves.{move_refusal, moves_refusal}
use Rattle.cubie.specs.Cube.{refusal_of, product, turn, apply_moves, is_home}
use Rattle.cubie.specs.Solvable.{corner_twist, edge_twist, corner_perm, edge_perm, solvable}
use Rattle.cubie.specs.declared.CubieCube.{CubieCube}

-- of a cube that has to be solvable: 4, 5, 6 by range, and 6 for one that isn't
unfoldable pub solvable_refusal : CubieCube → ℕ
solvable_refusal c = pick (eqb (refusal_of c) 0) (pick (solvable c) 0 6) (refusal_of c)

-- ---- the public functions, each by its name in the Rust

-- `Mul`: "4, 5, 6 for a cube, or for either of two", the lowest
abbrev pub mul_answer : CubieCube → CubieCube → Result CubieCube Refusal
mul_answer a b = answered (lowest_of (refusal_of a) (refusal_of b)) (product a b)

-- `apply_move` and `apply_moves`: "a cube's refusal before its moves' 7"
abbrev pub move_answer : CubieCube → ℕ → Result CubieCube Refusal
move_answer c m = answered (first_of (refusal_of c) (move_refusal m)) (turn c m)

abbrev pub moves_answer : CubieCube → List ℕ → Result CubieCube Refusal
moves_answer c ms = answered (first_of (refusal_of c) (moves_refusal ms)) (apply_moves c ms)

abbrev pub solved_answer : CubieCube → Result Bool Refusal
solved_answer c = answered (refusal_of c) (is_home c)

abbrev pub solvable_answer : CubieCube → Result Bool Refusal
solvable_answer c = answered (refusal_of c) (solvable c)

abbrev pub corner_twist_answer : CubieCube → Result ℕ Refusal
corner_twist_answer c = answered (refusal_of c) (corner_twist c)

abbrev pub edge_twist_answer : CubieCube → Result ℕ Refusal
edge_twist_answer c = answered (refusal_of c) (edge_twist c)

abbrev pub corner_perm_answer : CubieCube → Result ℕ Refusal
corner_perm_answer c = answered (refusal_of c) (corner_perm c)

abbrev pub edge_perm_answer : CubieCube → Result ℕ Refusal
edge_perm_answer c = answered (refusal_of c) (edge_perm c)
