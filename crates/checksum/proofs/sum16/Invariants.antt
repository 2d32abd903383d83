-- `checksum::sum16` meets its contract. Assumes nothing.
use Rattle.std.proofs.Common.{◌≡◌, drop}
use Rattle.checksum.specs.Sum.{fnv, fnv_from, bytes16}
use Rattle.checksum.proofs.sum16.Given as goal

abbrev pub invariant-loop-x : goal.invariant-loop-x
invariant-loop-x l = fnv_from l.sum (bytes16 (drop l.x-index l.s)) ≡ fnv (bytes16 l.s)
