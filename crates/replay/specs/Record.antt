-- A recorded case: a line of hex digits; a part is its length in two bytes and its bytes. Assumes nothing: these are definitions.
use Rattle.std.specs.Prelude.{◌&&◌, List, [], ◌∷◌, ℕ, ◌+◌, ◌-◌, ◌*◌, ◌/◌, ◌≤◌, min, leb, length, get_or}
use Rattle.base.specs.Lists.{pick}
use Rattle.replay.specs.declared.Part.{Part}

-- a to f are 10 to 15, 0 to 9 themselves; any other byte counts as 0
unfoldable pub nibble_of : ℕ → ℕ
nibble_of c = pick (leb 97 c) (pick (leb c 102) (c - 87) 0) (pick (leb 48 c && leb c 57) (c - 48) 0)

-- two digits a byte; a last digit by itself is dropped
unfoldable pub unhexed : List ℕ → List ℕ
unhexed [] = []
unhexed (a ∷ []) = []
unhexed (a ∷ b ∷ s) = (nibble_of a * 16 + nibble_of b) ∷ unhexed s

abbrev pub fitting : List ℕ → List ℕ → ℕ
fitting text room = min (length text / 2) (length room)

abbrev pub part_at : List ℕ → ℕ → Part
part_at s at =
    pick (leb (at + 2) (length s))
    (record { start = at + 2; end = min (at + 2 + (get_or s at 0 * 256 + get_or s (at + 1) 0)) (length s) })
    (record { start = length s; end = length s })

-- a part lies within a line of n bytes
pub record Within (p : Part) (n : ℕ) : Type 0 where
  pub start : p.start ≤ p.end
  pub end : p.end ≤ n
