-- `list_text::inner::put_moves` meets its contract. The loop keeps what is to come: the numbers that are left, written behind those that are. Assumes nothing.
use mathlib.Core.Path.{◌≡◌}
use lib.ListN.{length, drop}
use Rattle.words.specs.Answers.{over}
use Rattle.words.specs.Text.{parse}
use Rattle.list_text.proofs.inner.put_moves.Given as goal

abbrev pub invariant-loop-i : goal.invariant-loop-i
invariant-loop-i l =
    (goal.iterator-loop-i).can_next l.i-iterator
    × (goal.iterator-loop-i).is_finite l.i-iterator
    × (over l.moves (length l.yielded) (drop (length l.yielded) (parse l.text)) ≡ over l.initial.moves 0 (parse l.text))
