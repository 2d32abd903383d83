-- `move_row::inner::row_places` meets its contract. Assumes nothing.
use Rattle.std.proofs.Common.{sym, ◌∙◌, append-nil}
use Rattle.move_row.specs.Tables.{number}
use Rattle.move_row.proofs.Six.{number-lt}
use Rattle.move_row.proofs.Rows.{row-front}
use Rattle.move_row.proofs.inner.row_places.Goals as goal

pub returns-in-ECombo-clause-value : goal.returns-in-ECombo-clause-value
returns-in-ECombo-clause-value c = rw c.in-ECombo.is (c.index_to_e_combo.ensures ∙ sym (append-nil _))

pub returns-in-ECombo-clause-arrangement : goal.returns-in-ECombo-clause-arrangement
returns-in-ECombo-clause-arrangement c =
    row-front (number c.args.t) c.args.i (number-lt c.args.t) c.requires c.index_to_e_combo.result (rw c.in-ECombo.is (c.index_to_e_combo.ensures ∙ sym (append-nil _)))
