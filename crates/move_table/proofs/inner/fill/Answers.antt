-- `move_table::inner::fill` meets its contract. The loop's invariant: the first i rows are written. Assumes nothing.
use mathlib.Core.Path.{◌≡◌, sym, ap, ◌∙◌}
use Prim.Native.Nat.{◌*◌}
use native.Mathlib.Omega.{arith}
use lib.ListN.{length}
use Rattle.base.proofs.Steps.{written_all}
use Rattle.move_row.specs.Tables.{number, table_at, true_table}
use Rattle.move_row.proofs.Six.{number-lt}
use Rattle.move_table.proofs.Rows.{row-length, table-length, table-part, row_more}
use Rattle.move_table.proofs.Bounds.{row_fits, rows-done}
use Rattle.move_table.proofs.inner.fill.Goals as goal

pub loop-i-preserved : goal.loop-i-preserved
loop-i-preserved c =
    let l = c.loop-i in
    let T = table_at (number c.args.t) in
    let cols = c.columns-columns.result in
    let f = row_fits (number-lt c.args.t) c.rows-i-end.ensures c.columns-columns.ensures c.requires c.loop-i-test.true in
    let row = c.fill_row.ensures in
    let size : length c.fill_row.new.row ≡ cols = ap length row ∙ row-length T l.i ∙ sym c.columns-columns.ensures in
    row_more l.table (true_table T) c.fill_row.new.row l.i cols (omega (arith, f)) l.invariant size (table-part T l.i cols c.columns-columns.ensures f.2 ∙ sym row)

pub returns : goal.returns
returns c =
    let l = c.loop-i in
    let T = table_at (number c.args.t) in
    let done : l.i * c.columns-columns.result ≡ length c.args.table.now =
    rows-done (number-lt c.args.t) c.rows-i-end.ensures c.columns-columns.ensures c.requires (omega arith) c.loop-i-test.false in
    written_all l.table (true_table T) (l.i * c.columns-columns.result) (omega (arith, table-length T, c.requires)) l.invariant (omega (arith, done))
