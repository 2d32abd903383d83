-- `coordinate::to_index` meets its contract. Assumes nothing.
use Rattle.std.proofs.Common.{sym}
use Rattle.std.proofs.lemmas.Result.{err_from_is_err_and}
use Rattle.refusal.proofs.Laws.{told}
use Rattle.coordinate.proofs.Twelve.{number-small}
use Rattle.coordinate.proofs.to_index.Goals as goal

pub returns-in_err-number-clause-value : goal.returns-in_err-number-clause-value
returns-in_err-number-clause-value c =
    let p = err_from_is_err_and c.from_residual.result c.from_residual.ensures.1 in
    rw (p.1, p.2) (told _ _ _ (number-small c.args.kind c.args.places.now) (sym c.in_err-number.ensures))
