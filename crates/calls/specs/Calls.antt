-- What a call on lent bytes returns and leaves in them. Assumes nothing: these are definitions.
use Rattle.std.specs.Prelude.{◌≡◌, Bool, ◌&&◌, List, [], ◌∷◌, ℕ, eqb, length, Result, Ok, Err}
use Rattle.base.specs.Lists.{pick, bit}
use Rattle.refusal.specs.declared.Refusal.{Refusal}
use Rattle.refusal.specs.Refusals.{number, answered}
use Rattle.moves.specs.Answers.{of_two, inverse_move_answer}
use Rattle.cubie.specs.Answers.{mul_answer, move_answer, moves_answer, solved_answer, solvable_answer}
use Rattle.cubie.specs.Cube.{refusal_of, bytes_of, cube_of}
use Rattle.cubie.specs.Solvable.{corner_twist, edge_twist, corner_perm, edge_perm}
use Rattle.cubie.specs.declared.CubieCube.{CubieCube}

-- the number that a call returns, and the lent bytes after it
pub record Left : Type 0 where
  pub number : ℕ
  pub bytes : List ℕ

pub record Leaves (want : Left) (r : ℕ) (after : List ℕ) : Type 0 where
  pub number : r ≡ want.number
  pub bytes : after ≡ want.bytes

-- a refusal changes no lent memory
abbrev pub refuse : ℕ → List ℕ → Left
refuse n before = record { number = n; bytes = before }

abbrev pub leave : List ℕ → Left
leave bytes = record { number = 0; bytes = bytes }

-- the bytes of a value, or a refusal's number
abbrev pub answer_left : {A : Type 0} → (A → List ℕ) → Result A Refusal → List ℕ → Left
answer_left bytes (Ok a) before = leave (bytes a)
answer_left bytes (Err r) before = refuse (number r) before

-- a cube in 40 bytes; yes or no in one, 1 or 0; a number in one
abbrev pub cube_left : Result CubieCube Refusal → List ℕ → Left
cube_left = answer_left bytes_of

abbrev pub bool_left : Result Bool Refusal → List ℕ → Left
bool_left = answer_left (λ b. bit b ∷ [])

abbrev pub number_left : Result ℕ Refusal → List ℕ → Left
number_left = answer_left (λ k. k ∷ [])

-- 10 unless the lengths are those that are asked for
abbrev pub sized : Bool → Left → List ℕ → Left
sized fits want before = pick fits want (refuse 10 before)

-- ---- the calls

abbrev pub mul_call : List ℕ → List ℕ → List ℕ → Left
mul_call a b out =
    sized (eqb (length a) 40 && (eqb (length b) 40 && eqb (length out) 40)) (cube_left (mul_answer (cube_of a) (cube_of b)) out) out

abbrev pub move_call : List ℕ → ℕ → List ℕ → Left
move_call s m out = sized (eqb (length s) 40 && eqb (length out) 40) (cube_left (move_answer (cube_of s) m) out) out

abbrev pub moves_call : List ℕ → List ℕ → List ℕ → Left
moves_call s ms out = sized (eqb (length s) 40 && eqb (length out) 40) (cube_left (moves_answer (cube_of s) ms) out) out

abbrev pub solved_call : List ℕ → List ℕ → Left
solved_call s out = sized (eqb (length s) 40 && eqb (length out) 1) (bool_left (solved_answer (cube_of s)) out) out

abbrev pub solvable_call : List ℕ → List ℕ → Left
solvable_call s out = sized (eqb (length s) 40 && eqb (length out) 1) (bool_left (solvable_answer (cube_of s)) out) out

abbrev pub four_counts : CubieCube → List ℕ
four_counts c = corner_twist c ∷ edge_twist c ∷ corner_perm c ∷ edge_perm c ∷ []

abbrev pub counts_call : List ℕ → List ℕ → Left
counts_call s out =
    sized (eqb (length s) 40 && eqb (length out) 4) (answer_left (λ counts. counts) (answered (refusal_of (cube_of s)) (four_counts (cube_of s))) out) out

abbrev pub inverse_move_call : ℕ → List ℕ → Left
inverse_move_call m out = sized (eqb (length out) 1) (number_left (inverse_move_answer m) out) out

abbrev pub of_two_call : (ℕ → ℕ → Bool) → ℕ → ℕ → List ℕ → Left
of_two_call f m n out = sized (eqb (length out) 1) (bool_left (of_two f m n) out) out
