-- `solver::solve` meets its contract: the tests, and then the search with its last check. Assumes nothing.
use Rattle.std.proofs.Common.{ap, sym, ◌∙◌}
use Rattle.refusal.proofs.Laws.{not_refused}
use Rattle.search.specs.Solve.{checked}
use Rattle.search.proofs.Answered.{solve-refuses, solve-searches}
use Rattle.solver.proofs.solve.Goals as goal

pub returns-in-Err-clause-value : goal.returns-in-Err-clause-value
returns-in-Err-clause-value c = c.no_lists.ensures ∙ sym (solve-refuses _ _ _ _ _ _ (sym c.in-Err.ensures.value))

pub returns-in-Ok-clause-value : goal.returns-in-Ok-clause-value
returns-in-Ok-clause-value c =
    c.last_check.ensures.value ∙ ap (checked _) c.search.ensures.value ∙ sym (solve-searches _ _ _ _ _ (not_refused _ _ (sym c.in-Ok.ensures.value)))
