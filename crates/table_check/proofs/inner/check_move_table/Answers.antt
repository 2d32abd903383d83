-- `table_check::inner::check_move_table` meets its contract. Assumes nothing.
use mathlib.Core.Path.{ap, ◌∙◌}
use mathlib.Core.List.{List}
use Prim.Native.Nat.{ℕ, ◌*◌}
use Rattle.move_row.specs.Tables.{number, table_at, true_table, off_place}
use Rattle.move_row.proofs.Six.{number-lt}
use Rattle.pruning_table.proofs.Parts.{slice_is, len_is}
use Rattle.table_check.proofs.Parts.{move-tells}
use Rattle.table_check.proofs.inner.check_move_table.Goals as goal

pub returns : goal.returns
returns c =
    let t = number c.args.t in
    let h = number-lt c.args.t in
    let m = c.args.moves.now in
    let n = len_is t h c.rows.result c.columns.result c.rows.ensures c.columns.ensures in
    let s = slice_is t m c.move_begins-at.result (c.rows.result * c.columns.result) c.move_begins-at.ensures n in
    move-tells m c.requires t h c.first_bad.result (c.first_bad.ensures ∙ ap (λ (l : List ℕ). off_place (true_table (table_at t)) l) s)
