-- The strokes of a list of moves. Assumes nothing: this is a definition.
use Rattle.std.specs.Prelude.{List, ℕ, length}

-- "The strokes of a list, shown to the therapist, are its number of moves"
abbrev pub strokes_of : List ℕ → ℕ
strokes_of ms = length ms
