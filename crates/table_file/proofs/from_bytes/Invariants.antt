-- `table_file::from_bytes` meets its contract. Assumes nothing.
use mathlib.Core.Path.{◌≡◌}
use Prim.Native.Nat.{◌*◌}
use lib.ListN.{length, take}
use Rattle.table_file.specs.File.{entries16}
use Rattle.table_file.proofs.from_bytes.Given as goal

abbrev pub invariant-loop-i : goal.invariant-loop-i
invariant-loop-i l = (length l.bytes ≡ 2 * length l.initial.entries) × (take l.i l.entries ≡ take l.i (entries16 l.bytes))
