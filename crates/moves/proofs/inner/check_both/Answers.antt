-- `moves::inner::check_both` meets its contract: it refuses with 7 where either does. Assumes nothing.
use Rattle.std.proofs.Common.{refl, sym}
use Rattle.std.proofs.lemmas.Result.{err_from_is_err_and}
use Rattle.refusal.proofs.Laws.{not_refused}
use Rattle.moves.proofs.Answers.{either_refused, lowest_right}
use Rattle.moves.proofs.inner.check_both.Goals as goal

pub returns-in_err-check_move : goal.returns-in_err-check_move
returns-in_err-check_move c =
    let p = err_from_is_err_and c.from_residual.result c.from_residual.ensures.1 in
    rw (p.1, p.2) (sym (either_refused c.args.m c.args.other _ (sym c.in_err-check_move.ensures.value)))

pub returns : goal.returns
returns c = rw (c.check_move-2.ensures.value, lowest_right _ _ (not_refused _ _ (sym c.in_ok-check_move.ensures.value))) refl
