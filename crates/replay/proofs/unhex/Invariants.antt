-- `replay::unhex` meets its contract. The loop's invariant: the first i bytes are in. Assumes nothing.
use mathlib.Core.Path.{◌≡◌}
use lib.Seq.{paste}
use Rattle.replay.specs.Record.{unhexed}
use Rattle.replay.proofs.unhex.Given as goal

abbrev pub invariant-loop-i : goal.invariant-loop-i
invariant-loop-i l = l.out ≡ paste l.initial.out 0 (unhexed l.text) l.i
