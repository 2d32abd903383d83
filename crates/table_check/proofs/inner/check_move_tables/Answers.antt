-- `table_check::inner::check_move_tables` meets its contract. Assumes nothing.
use native.Mathlib.Omega.{arith}
use Rattle.move_row.proofs.Six.{number-lt, six-number}
use Rattle.table_check.proofs.Parts.{move-rule, turn-good}
use Rattle.table_check.proofs.inner.check_move_tables.Goals as goal

pub loop-t-preserved : goal.loop-t-preserved
loop-t-preserved c p =
    let i = c.loop-t.t-index in
    let h = c.loop-t-test.true in
    turn-good _ p 0 6 i _ c.number.result (six-number _ i h) c.number.ensures (omega arith) h (c.loop-t.invariant p) c.check_move_table.result
    (move-rule _ p _ (number-lt _) c.check_move_table.result c.check_move_table.ensures) c.tell.ensures c.in_ok-tell.was
