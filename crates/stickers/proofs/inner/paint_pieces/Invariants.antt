-- `stickers::inner::paint_pieces` meets its contract. The loop's invariant: the first k letters are painted. Assumes nothing.
use mathlib.Core.Path.{◌≡◌}
use lib.ListN.{length, take}
use Rattle.stickers.specs.Picture.{paint, shown}
use Rattle.stickers.proofs.inner.paint_pieces.Given as goal

abbrev pub invariant-loop-k : goal.invariant-loop-k
invariant-loop-k l = (length l.face ≡ 54) × (l.face ≡ paint (take l.k l.facelets) (take l.k (shown l.n l.colors l.p l.t)) l.initial.face)
