-- What the public functions answer: a value, or a refusal by its number. Assumes nothing: these are definitions.
use Rattle.std.specs.Prelude.{Bool, ℕ, min, eqb, Result}
use Rattle.base.specs.Lists.{pick}
use Rattle.refusal.specs.declared.Refusal.{Refusal}
use Rattle.refusal.specs.Refusals.{answered}
use Rattle.moves.specs.Moves.{move_refusal, inverse_move}

-- the lowest of two refusals, where 0 is none
unfoldable pub lowest_of : ℕ → ℕ → ℕ
lowest_of m n = pick (eqb m 0) n (pick (eqb n 0) m (min m n))

-- the first of two refusals that is one: a cube's before its moves'
unfoldable pub first_of : ℕ → ℕ → ℕ
first_of m n = pick (eqb m 0) n m

-- of two moves: 7 if either number is above 17
abbrev pub of_two : (ℕ → ℕ → Bool) → ℕ → ℕ → Result Bool Refusal
of_two f m n = answered (lowest_of (move_refusal m) (move_refusal n)) (f m n)

abbrev pub inverse_move_answer : ℕ → Result ℕ Refusal
inverse_move_answer m = answered (move_refusal m) (inverse_move m)
