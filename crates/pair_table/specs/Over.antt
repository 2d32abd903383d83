-- What the tables of two lent move tables are, by the struct that holds them. Assumes nothing: these are definitions.
use Rattle.std.specs.Prelude.{List, ℕ, ◌*◌}
use Rattle.pair_table.specs.Answers.{Built, Outcome, Layer}
use Rattle.pair_table.specs.Pairs.{next}
use Rattle.pair_table.specs.Tables.{Ready}
use Rattle.pair_table.specs.declared.Pairs.{Pairs}

-- the pair after a move
abbrev pub step_by : Pairs → ℕ → ℕ → ℕ
step_by s = next s.first.now s.second.now s.rows2 s.moves

-- how many pairs there are
abbrev pub pairs_of : Pairs → ℕ
pairs_of s = s.rows1 * s.rows2

-- what the builder has tested before it writes
abbrev pub ReadyFor : Pairs → List ℕ → Type 0
ReadyFor s tab = Ready s.first.now s.second.now tab s.rows1 s.rows2 s.moves

-- those pairs that are within d moves have their least number of moves
abbrev pub LayerBy : Pairs → ℕ → List ℕ → Type 0
LayerBy s d tab = Layer (step_by s) s.moves (pairs_of s) d tab

-- what the builder answers
abbrev pub OutcomeBy : Pairs → List ℕ → List ℕ → Built → Type 0
OutcomeBy s tab tab' r = Outcome s.first.now s.second.now s.rows1 s.rows2 s.moves tab tab' r
