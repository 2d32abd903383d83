-- `checksum::sum8` meets its contract. Assumes nothing.
use Rattle.std.proofs.Common.{◌≡◌, drop}
use Rattle.checksum.specs.Sum.{fnv, fnv_from}
use Rattle.checksum.proofs.sum8.Given as goal

abbrev pub invariant-loop-x : goal.invariant-loop-x
invariant-loop-x l = fnv_from l.sum (drop l.x-index l.s) ≡ fnv l.s
