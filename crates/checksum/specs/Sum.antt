-- The check sum of a table, FNV-1a of 64 bits over its bytes, and its greatest entry. Assumes nothing: these are definitions.
use Rattle.std.specs.Prelude.{ℕ, ◌*◌, ◌/◌, ◌%◌, ◌^◌, max, List, [], ◌∷◌, bit_xor}

-- one byte more: the exclusive or of the bits, times the prime 100000001b3 (in hex), in 64 bits
unfoldable pub fnv_step : ℕ → ℕ → ℕ
fnv_step sum byte = bit_xor sum byte * 1099511628211 % 2 ^ 64

-- the bytes of a list, one after the other
unfoldable pub fnv_from : ℕ → List ℕ → ℕ
fnv_from sum [] = sum
fnv_from sum (byte ∷ bytes) = fnv_from (fnv_step sum byte) bytes

-- from the offset cbf29ce484222325 (in hex) on
abbrev pub fnv : List ℕ → ℕ
fnv bytes = fnv_from 14695981039346656037 bytes

-- entries of 16 bits as bytes, the low byte first
unfoldable pub bytes16 : List ℕ → List ℕ
bytes16 [] = []
bytes16 (x ∷ xs) = x % 256 ∷ x / 256 ∷ bytes16 xs

-- the greatest entry, 0 where there is none
unfoldable pub greatest_of : List ℕ → ℕ
greatest_of [] = 0
greatest_of (x ∷ xs) = max x (greatest_of xs)
