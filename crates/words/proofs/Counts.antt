-- The strokes of a list. Assumes nothing.
use mathlib.Core.Path.{◌≡◌}
use mathlib.Core.List.{List, ◌++◌}
use Prim.Native.Nat.{ℕ, ◌+◌, ◌*◌, ◌≤◌}
use native.Mathlib.Omega.{arith}
use lib.ListN.{length, length-append}
use Rattle.words.specs.Strokes.{strokes_of}

pub strokes-append : (one two : List ℕ) → strokes_of (one ++ two) ≡ strokes_of one + strokes_of two
strokes-append one two = length-append one two

-- a bound for who writes the number
pub strokes-le : (ms : List ℕ) → strokes_of ms ≤ 2 * length ms
strokes-le ms = omega arith
