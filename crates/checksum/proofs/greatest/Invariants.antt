-- `checksum::greatest` meets its contract. Assumes nothing.
use Rattle.std.proofs.Common.{◌≡◌, max, drop}
use Rattle.checksum.specs.Sum.{greatest_of}
use Rattle.checksum.proofs.greatest.Given as goal

abbrev pub invariant-loop-x : goal.invariant-loop-x
invariant-loop-x l = max l.most (greatest_of (drop l.x-index l.s)) ≡ greatest_of l.s
