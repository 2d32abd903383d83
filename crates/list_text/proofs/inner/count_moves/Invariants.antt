-- `list_text::inner::count_moves` meets its contract. The loop's invariant: the words so far, each a move's, are counted. Assumes nothing.
use mathlib.Core.Path.{◌≡◌}
use Prim.Native.Nat.{◌<◌}
use lib.ListN.{length}
use Rattle.std.specs.List.{All}
use Rattle.words.specs.Text.{number_of}
use Rattle.list_text.proofs.inner.count_moves.Given as goal

abbrev pub invariant-loop-word : goal.invariant-loop-word
invariant-loop-word l = (l.n ≡ length l.yielded) × All (λ w. number_of w.now < 18) l.yielded
