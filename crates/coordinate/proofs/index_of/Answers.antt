-- `coordinate::index_of` meets its contract. Assumes nothing.
use Rattle.std.proofs.Common.{sym, ap, ◌∙◌, Ok}
use Rattle.std.proofs.lemmas.Result.{err_from_is_err_and}
use Rattle.refusal.proofs.Laws.{given, stays_as, passes}
use Rattle.coordinate.proofs.Twelve.{e-combo-number}
use Rattle.numbering.specs.declared.ECombo.{ECombo}
use Rattle.coordinate.proofs.index_of.Goals as goal

pub returns-in_err-e_combo_to_index-in-2 : goal.returns-in_err-e_combo_to_index-in-2
returns-in_err-e_combo_to_index-in-2 c =
    let p = err_from_is_err_and c.from_residual-in_err-e_combo_to_index-in-2.result c.from_residual-in_err-e_combo_to_index-in-2.ensures.1 in
    let g = given _ _ _ (sym c.in_ok-exactly-in-2.ensures) in
    rw (p.1, p.2, c.in-2.is, e-combo-number _ g.0, g.1) (sym (stays_as _ _ _ _ (sym c.in_err-e_combo_to_index-in-2.ensures)))

pub returns-in_ok-e_combo_to_index-in-2 : goal.returns-in_ok-e_combo_to_index-in-2
returns-in_ok-e_combo_to_index-in-2 c =
    let g = given _ _ _ (sym c.in_ok-exactly-in-2.ensures) in
    let f = given _ _ _ (sym c.in_ok-e_combo_to_index-in-2.ensures) in
    ap Ok (c.from-in-2.ensures ∙ sym (ap (λ (m : ECombo). m.0) f.1)) ∙ rw (c.in-2.is, e-combo-number _ g.0, g.1) (sym (passes _ _ f.0))
