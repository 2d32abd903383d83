-- `list_text::inner::text_fits` meets its contract. The loop keeps the answer: what is left of the list, in what is left of the room. Assumes nothing.
use mathlib.Core.Path.{◌≡◌}
use Prim.Native.Nat.{◌≤◌, ◌+◌}
use lib.Dec.{leb}
use lib.ListN.{drop}
use Rattle.base.specs.Lists.{total}
use Rattle.words.proofs.Text.{need}
use Rattle.list_text.proofs.inner.text_fits.Given as goal

abbrev pub invariant-loop-m : goal.invariant-loop-m
invariant-loop-m l = (l.left ≤ l.room + 1) × (leb (total need (drop l.m-index l.moves)) l.left ≡ leb (total need l.moves) (l.room + 1))
