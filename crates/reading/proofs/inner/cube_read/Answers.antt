-- `reading::inner::cube_read` meets its contract. Assumes nothing.
use Rattle.stickers.specs.Reader.{cube_read}
use Rattle.reading.proofs.inner.cube_read.Goals as goal

pub returns : goal.returns
unfolding cube_read
returns c = λ i. record { cp = c.read_corners.ensures.corners i; co = c.read_corners.ensures.twists i; ep = c.read_edges.ensures.edges i; eo = c.read_edges.ensures.flips i }
