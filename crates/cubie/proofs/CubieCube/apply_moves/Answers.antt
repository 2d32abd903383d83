-- `cubie::CubieCube::apply_moves` meets its contract. Assumes nothing.
use Rattle.std.proofs.Common.{ap, sym, ◌∙◌, Ok}
use Rattle.std.proofs.lemmas.Result.{err_from_is_err_and}
use Rattle.refusal.proofs.Laws.{not_refused, stays, passes}
use Rattle.moves.proofs.Answers.{first_stays, first_next}
use Rattle.cubie.proofs.CubieCube.apply_moves.Goals as goal

pub returns-in_err-check : goal.returns-in_err-check
returns-in_err-check c =
    let p = err_from_is_err_and c.from_residual.result c.from_residual.ensures.1 in
    rw (p.1, p.2) (sym (first_stays _ _ _ _ (sym c.in_err-check.ensures.value)))

pub returns-in_err-check_list : goal.returns-in_err-check_list
returns-in_err-check_list c =
    let p = err_from_is_err_and c.from_residual-in_err-check_list.result c.from_residual-in_err-check_list.ensures.1 in
    rw (p.1, p.2) (sym (first_next _ _ _ c.in_ok-check.ensures.in_range ∙ stays _ _ _ (sym c.in_err-check_list.ensures.value)))

pub returns : goal.returns
returns c =
    ap Ok c.apply_moves.ensures
    ∙ sym (first_next _ _ _ c.in_ok-check.ensures.in_range ∙ passes _ _ (not_refused _ _ (sym c.in_ok-check_list.ensures.value)))
