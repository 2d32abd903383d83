-- `reading::inner::read_edges` meets its contract. Outer loop: what is written is the front of what is read. Inner loop: the ways that are left give the first that fits. Assumes nothing.
use mathlib.Core.Path.{◌≡◌}
use mathlib.Core.List.{map}
use Prim.Native.Nat.{◌≤◌, ◌-◌}
use lib.ListN.{length, take}
use Rattle.base.specs.Lists.{range}
use Rattle.stickers.specs.Reader.{edge_fits, first_from, edge_read, flip_read}
use Rattle.reading.proofs.inner.read_edges.Given as goal

abbrev pub invariant-ways : goal.invariant-ways
invariant-ways l = (l.k ≤ 24) × (first_from (edge_fits l.a l.b) l.k (24 - l.k) ≡ first_from (edge_fits l.a l.b) 0 24)

abbrev pub decreases-ways : goal.decreases-ways
decreases-ways l = 24 - l.k

abbrev pub invariant-places : goal.invariant-places
invariant-places l =
    (length l.ep ≡ 12) × (length l.eo ≡ 12) × (take l.i l.ep ≡ take l.i (map (edge_read l.s) (range 0 12))) × (take l.i l.eo ≡ take l.i (map (flip_read l.s) (range 0 12)))
