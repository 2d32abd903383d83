-- `reading::inner::read_corners` meets its contract. Outer loop: what is written is the front of what is read. Inner loop: the pieces that are left give the first that fits. Assumes nothing.
use mathlib.Core.Path.{◌≡◌}
use mathlib.Core.List.{map}
use Prim.Native.Nat.{◌≤◌, ◌-◌}
use lib.ListN.{length, take}
use Rattle.base.specs.Lists.{range}
use Rattle.stickers.specs.Reader.{corner_fits, first_from, corner_read, twist_read}
use Rattle.reading.proofs.inner.read_corners.Given as goal

abbrev pub invariant-pieces : goal.invariant-pieces
invariant-pieces l = (l.j ≤ 8) × (first_from (corner_fits l.a l.b) l.j (8 - l.j) ≡ first_from (corner_fits l.a l.b) 0 8)

abbrev pub decreases-pieces : goal.decreases-pieces
decreases-pieces l = 8 - l.j

abbrev pub invariant-places : goal.invariant-places
invariant-places l =
    (length l.cp ≡ 8) × (length l.co ≡ 8) × (take l.i l.cp ≡ take l.i (map (corner_read l.s) (range 0 8))) × (take l.i l.co ≡ take l.i (map (twist_read l.s) (range 0 8)))
