-- A file of the ten tables: 16-bit entries as bytes and back. Assumes nothing: these are definitions.
use Rattle.std.specs.Prelude.{Bool, List, [], ◌∷◌, ◌++◌, ℕ, ◌+◌, ◌*◌, eqb, length}
use Rattle.base.specs.Lists.{pick}
use Rattle.checksum.specs.Sum.{bytes16}

-- the entries that bytes say, the low byte first; a last byte alone says none
unfoldable pub entries16 : List ℕ → List ℕ
entries16 [] = []
entries16 (low ∷ []) = []
entries16 (low ∷ high ∷ bytes) = (low + 256 * high) ∷ entries16 bytes

-- two bytes for each entry
abbrev pub two_each : List ℕ → List ℕ → Bool
two_each entries bytes = eqb (length bytes) (2 * length entries)

-- what the lent bytes hold after the call, and the lent entries: where the lengths don't fit, what they held
abbrev pub bytes_left : List ℕ → List ℕ → List ℕ
bytes_left entries bytes = pick (two_each entries bytes) (bytes16 entries) bytes

abbrev pub entries_left : List ℕ → List ℕ → List ℕ
entries_left bytes entries = pick (two_each entries bytes) (entries16 bytes) entries

-- the file: the entries of the move tables, then the bytes of the pruning tables
abbrev pub file_of : List ℕ → List ℕ → List ℕ
file_of moves prunes = bytes16 moves ++ prunes
