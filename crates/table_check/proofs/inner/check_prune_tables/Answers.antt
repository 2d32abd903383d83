-- `table_check::inner::check_prune_tables` meets its contract. Assumes nothing.
use Rattle.std.proofs.Common.{◌+◌, Ok}
use native.Mathlib.Omega.{arith}
use Rattle.pruning_table.proofs.Filling.{four-number}
use Rattle.pruning_table.proofs.Parts.{prune_ge}
use Rattle.table_check.specs.Check.{ChecksIn}
use Rattle.table_check.proofs.Parts.{prune-rule, turn-good}
use Rattle.table_check.proofs.inner.check_prune_tables.Goals as goal

pub loop-t-preserved : goal.loop-t-preserved
loop-t-preserved c =
    let i = c.loop-t.t-index in
    let h = c.loop-t-test.true in
    let w : ChecksIn 6 (6 + i + 1) c.args.moves.now c.args.prunes.now (Ok tt) =
    turn-good _ _ 6 10 (6 + i) _ c.number.result (four-number _ i h) c.number.ensures (omega arith) (omega arith) c.loop-t.invariant c.check_prune_table.result
    (prune-rule _ _ _ (prune_ge _) c.check_prune_table.result c.check_prune_table.ensures) c.tell.ensures c.in_ok-tell.was in
    λ t k l. w t k (omega arith)
