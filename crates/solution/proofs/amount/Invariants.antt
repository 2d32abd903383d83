-- `solution::amount` meets its contract. At the head of the loop, what is left tells what all told. Assumes nothing.
use mathlib.Core.Path.{◌≡◌}
use Prim.Native.Nat.{◌^◌, ◌<◌}
use lib.ListN.{drop}
use Rattle.solution.proofs.Amounts.{read_from}
use Rattle.solution.proofs.amount.Given as goal

abbrev pub invariant-loop-c : goal.invariant-loop-c
invariant-loop-c l = (l.value < 10 ^ l.c-index) × (read_from l.value (drop l.c-index l.text) ≡ read_from 0 l.text)
