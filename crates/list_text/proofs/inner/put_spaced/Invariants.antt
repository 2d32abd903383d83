-- `list_text::inner::put_spaced` meets its contract. The loop keeps what is to come: the words that are left, written behind those that are. Assumes nothing.
use mathlib.Core.Path.{◌≡◌}
use Prim.Native.Nat.{◌≤◌, ◌+◌}
use lib.ListN.{length}
use Rattle.words.specs.Answers.{over}
use Rattle.words.proofs.Text.{text_from}
use Rattle.list_text.proofs.inner.put_spaced.Given as goal

abbrev pub invariant-loop-m : goal.invariant-loop-m
invariant-loop-m l = (length l.text ≡ length l.initial.text) × (l.end + length (text_from l.moves l.m-index) ≤ length l.text) × (l.end + length (text_from l.moves l.m-index) ≡ l.initial.end + length (text_from l.moves l.initial.m-index)) × (over l.text l.end (text_from l.moves l.m-index) ≡ over l.initial.text l.initial.end (text_from l.moves l.initial.m-index))
