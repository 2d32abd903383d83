-- `table_file::to_bytes` meets its contract. Assumes nothing.
use mathlib.Core.Path.{◌≡◌}
use Prim.Native.Nat.{◌*◌}
use lib.ListN.{length, take}
use Rattle.checksum.specs.Sum.{bytes16}
use Rattle.table_file.proofs.to_bytes.Given as goal

abbrev pub invariant-loop-i : goal.invariant-loop-i
invariant-loop-i l = (length l.bytes ≡ 2 * length l.entries) × (take (2 * l.i) l.bytes ≡ take (2 * l.i) (bytes16 l.entries))
