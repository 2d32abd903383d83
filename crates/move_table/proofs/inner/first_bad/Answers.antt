-- `move_table::inner::first_bad` meets its contract. Table 5 goes to its constants; the loop's invariant: the first i rows are true. Assumes nothing.
use mathlib.Core.Path.{◌≡◌, refl, sym, ap, ◌∙◌}
use mathlib.Core.List.{List}
use borrow.Author.Rules.{rules}
use Prim.Native.Nat.{ℕ, ◌*◌}
use native.Mathlib.Omega.{arith}
use lib.ListN.{length}
use Rattle.move_row.specs.Tables.{number, table_at, size, true_row, true_table, off_place}
use Rattle.move_row.specs.declared.MoveTable.{MoveTable}
use Rattle.move_row.specs.declared.MoveTable.TheVariants as table
use Rattle.move_table.specs.Constants.{e_ep_table}
use Rattle.move_table.proofs.Constants.{e-ep-constants}
use Rattle.move_row.proofs.Six.{number-lt}
use Rattle.move_table.proofs.Offs.{zip-off, off-end, rows-stop, rows_step, some-off, none-off, off-some, off-same}
use Rattle.move_table.proofs.Rows.{row-length, table-length, table-part}
use Rattle.move_table.proofs.Bounds.{row_fits, rows-done}
use Rattle.move_table.proofs.inner.first_bad.Goals as goal

-- table 5: a constant is the true entry
pub returns-then-eq : goal.returns-then-eq
unfolding e_ep_table
returns-then-eq c =
    let s = c.args.table.now in
    let t : c.args.t ≡ table.EEp = search rules in
    let l : length s ≡ size (table_at 5) = c.requires ∙ ap (λ (x : MoveTable). size (table_at (number x))) t in
    rw t (c.first_difference.ensures ∙ zip-off e_ep_table s (ap length e-ep-constants ∙ table-length (table_at 5) ∙ sym l) ∙ ap (λ (x : List ℕ). off_place x s) e-ep-constants)

pub overflow_add-result : goal.overflow_add-result
overflow_add-result c =
    let T = table_at (number c.args.t) in
    let f = row_fits (number-lt c.args.t) c.rows-i-end.ensures c.columns-columns.ensures c.requires c.loop-i-test.true in
    omega (arith, f, off-some (true_row T c.loop-i.i) _ c.bad_in_row.ensures c.in-Some.is, row-length T c.loop-i.i, c.columns-columns.ensures)

pub returns-in-Some : goal.returns-in-Some
returns-in-Some c =
    let l = c.loop-i in
    let cols = c.columns-columns.result in
    let T = table_at (number c.args.t) in
    let s = c.args.table.now in
    let f = row_fits (number-lt c.args.t) c.rows-i-end.ensures c.columns-columns.ensures c.requires c.loop-i-test.true in
    let o = off-some (true_row T l.i) _ c.bad_in_row.ensures c.in-Some.is in
    let size : length (true_row T l.i) ≡ cols = row-length T l.i ∙ sym c.columns-columns.ensures in
    some-off (true_table T) s
    (rows-stop (true_table T) s (true_row T l.i) l.i cols l.invariant size (table-part T l.i cols c.columns-columns.ensures f.2) f.0 c.in-Some.j o.0 (omega arith))
    (omega (arith, f, table-length T, c.requires))

pub loop-i-preserved : goal.loop-i-preserved
loop-i-preserved c =
    let l = c.loop-i in
    let cols = c.columns-columns.result in
    let T = table_at (number c.args.t) in
    let f = row_fits (number-lt c.args.t) c.rows-i-end.ensures c.columns-columns.ensures c.requires c.loop-i-test.true in
    let size : length (true_row T l.i) ≡ cols = row-length T l.i ∙ sym c.columns-columns.ensures in
    let o = off-same (true_row T l.i) _ c.bad_in_row.ensures (search rules) in
    rows_step (true_table T) c.args.table.now (true_row T l.i) l.i cols l.invariant size (table-part T l.i cols c.columns-columns.ensures f.2) f.0 _ refl (omega arith)

pub returns : goal.returns
returns c =
    let l = c.loop-i in
    let T = table_at (number c.args.t) in
    let s = c.args.table.now in
    let done : l.i * c.columns-columns.result ≡ length s =
    rows-done (number-lt c.args.t) c.rows-i-end.ensures c.columns-columns.ensures c.requires (omega arith) c.loop-i-test.false in
    none-off (true_table T) s
    (omega (arith, off-end (true_table T) s (l.i * c.columns-columns.result) l.invariant (omega (arith, table-length T, c.requires, done)), table-length T, c.requires, done))
