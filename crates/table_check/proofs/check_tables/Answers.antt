-- `table_check::check_tables` meets its contract. Assumes nothing.
use Rattle.std.proofs.Common.{◌≡◌, rules}
use Rattle.table_check.proofs.Parts.{bad-move}
use Rattle.table_check.proofs.check_tables.Goals as goal

pub returns-in_err-check_move_tables : goal.returns-in_err-check_move_tables
returns-in_err-check_move_tables c =
    let e : c.from_residual.result ≡ c.check_move_tables.result = search rules in
    rw (e, c.in_err-check_move_tables.was)
    (bad-move _ _ (record { six = c.if-moves-ne-MOVES_LEN.false; four = c.if-prunes-ne-PRUNES_LEN.false }) c.in_err-check_move_tables.was (c.check_move_tables.ensures _))
