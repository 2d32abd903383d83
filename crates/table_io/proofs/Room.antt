-- Two bytes for each of at most 32768 entries, at the front of a room of 65536 bytes. Assumes nothing.
use mathlib.Core.Path.{◌≡◌, sym}
use mathlib.Core.List.{List, ◌++◌}
use Prim.Native.Nat.{ℕ, ◌*◌, ◌≤◌}
use native.Mathlib.Omega.{arith}
use lib.ListN.{length, take, drop}
use lib.Seq.{length-take-le, length_front}

module _ (room : List ℕ) (n : ℕ) (size : 65536 ≡ length room) (few : n ≤ 32768) where
  pub front : 2 * n ≡ length (take (2 * n) room)
  front = sym (length-take-le (2 * n) room (omega arith))

  -- the same once the front was lent and holds other bytes
  module _ (bytes : List ℕ) (kept : length bytes ≡ length (take (2 * n) room)) where
    pub room-kept : 2 * n ≤ length (bytes ++ drop (2 * n) room)
    room-kept = omega (arith, length_front room bytes (2 * n) kept)

    pub front_kept : 2 * n ≡ length (take (2 * n) (bytes ++ drop (2 * n) room))
    front_kept = sym (length-take-le (2 * n) (bytes ++ drop (2 * n) room) room-kept)
