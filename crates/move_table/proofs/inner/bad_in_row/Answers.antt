-- `move_table::inner::bad_in_row` meets its contract. The loop's invariant: the entries before j are true. Assumes nothing.
use mathlib.Core.Path.{sym, ap, ◌∙◌}
use Prim.Native.Nat.{ℕ, ◌<◌}
use native.Mathlib.Omega.{arith}
use lib.ListN.{length, take}
use Rattle.move_row.specs.Tables.{number, table_at, columns, true_row}
use Rattle.move_table.proofs.Offs.{off-step, off-stop, off-end, some-off, none-off}
use Rattle.move_table.proofs.Rows.{row-length, entry-is, entry-fits}
use Rattle.move_table.proofs.inner.bad_in_row.Goals as goal

pub entry_after-requires : goal.entry_after-requires
entry_after-requires c =
    let a = c.args in
    let p = c.requires in
    let e = ap (λ (k : ℕ). take k c.row_places-a.result) c.places-n.ensures ∙ c.row_places-a.ensures.arrangement in
    let f = entry-fits a.t a.i c.loop-j.j _ _ p.0 (omega (arith, p.2)) e c.column_move.ensures in
    (f.0, p.1, f.1)

pub returns-then-entry-entry_after : goal.returns-then-entry-entry_after
returns-then-entry-entry_after c =
    let a = c.args in
    let l = c.loop-j in
    let T = table_at (number a.t) in
    let e = ap (λ (k : ℕ). take k c.row_places-a.result) c.places-n.ensures ∙ c.row_places-a.ensures.arrangement in
    let h : l.j < columns T = omega (arith, c.requires.2) in
    let k : l.j < length (true_row T a.i) = omega (arith, row-length T a.i) in
    let v = entry-is T a.i l.j _ _ _ h e c.column_move.ensures c.entry_after.ensures in
    some-off (true_row T a.i) a.row.now (off-stop (true_row T a.i) a.row.now l.j l.invariant k (omega arith) (λ same. c.if-entry-entry_after.true (sym same ∙ sym v))) k

pub loop-j-preserved : goal.loop-j-preserved
loop-j-preserved c =
    let a = c.args in
    let l = c.loop-j in
    let T = table_at (number a.t) in
    let e = ap (λ (k : ℕ). take k c.row_places-a.result) c.places-n.ensures ∙ c.row_places-a.ensures.arrangement in
    let h : l.j < columns T = omega (arith, c.requires.2) in
    let v = entry-is T a.i l.j _ _ _ h e c.column_move.ensures c.entry_after.ensures in
    off-step (true_row T a.i) a.row.now l.j l.invariant (omega (arith, row-length T a.i)) (omega arith) (sym v ∙ sym c.if-entry-entry_after.false)

pub returns : goal.returns
returns c =
    let a = c.args in
    let l = c.loop-j in
    let T = table_at (number a.t) in
    none-off (true_row T a.i) a.row.now
    (omega (arith, off-end (true_row T a.i) a.row.now l.j l.invariant (omega (arith, row-length T a.i, c.requires.2)), row-length T a.i, c.requires.2))
