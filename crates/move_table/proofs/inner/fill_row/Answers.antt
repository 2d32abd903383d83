-- `move_table::inner::fill_row` meets its contract. The loop's invariant: what is written is the front of the row. Assumes nothing.
use mathlib.Core.Path.{◌≡◌, ap, ◌∙◌}
use Prim.Native.Nat.{ℕ, ◌<◌}
use native.Mathlib.Omega.{arith}
use lib.ListN.{length, take}
use Rattle.base.proofs.Steps.{written-more, written_all}
use Rattle.move_row.specs.Tables.{number, table_at, columns, true_row}
use Rattle.move_table.proofs.Rows.{row-length, entry-is, entry-fits}
use Rattle.move_table.proofs.inner.fill_row.Goals as goal

pub entry_after-requires : goal.entry_after-requires
entry_after-requires c =
    let a = c.args in
    let p = c.requires in
    let e = ap (λ (k : ℕ). take k c.row_places-a.result) c.places-n.ensures ∙ c.row_places-a.ensures.arrangement in
    let f = entry-fits a.t a.i c.loop-j.j _ _ p.0 (omega (arith, p.2)) e c.column_move.ensures in
    (f.0, p.1, f.1)

pub loop-j-preserved : goal.loop-j-preserved
loop-j-preserved c =
    let a = c.args in
    let l = c.loop-j in
    let T = table_at (number a.t) in
    let e = ap (λ (k : ℕ). take k c.row_places-a.result) c.places-n.ensures ∙ c.row_places-a.ensures.arrangement in
    let h : l.j < columns T = omega (arith, c.requires.2) in
    let size : length (true_row T a.i) ≡ length l.row = omega (arith, row-length T a.i, c.requires.2) in
    written-more l.row (true_row T a.i) l.j size l.invariant _ (omega arith) (entry-is T a.i l.j _ _ _ h e c.column_move.ensures c.entry_after.ensures)

pub returns : goal.returns
returns c =
    let a = c.args in
    let l = c.loop-j in
    let T = table_at (number a.t) in
    written_all l.row (true_row T a.i) l.j (omega (arith, row-length T a.i, c.requires.2)) l.invariant (omega arith)
