-- `cubie::inner::check_solvable` meets its contract. Assumes nothing.
use Rattle.std.proofs.Common.{refl, sym, ◌∙◌}
use Rattle.std.proofs.lemmas.Result.{err_from_is_err_and}
use Rattle.refusal.proofs.Laws.{stays_first}
use Rattle.cubie.specs.Answers.{solvable_refusal}
use Rattle.cubie.proofs.inner.check_solvable.Goals as goal

pub returns-in_err-check-clause-value : goal.returns-in_err-check-clause-value
unfolding solvable_refusal
returns-in_err-check-clause-value c =
    let p = err_from_is_err_and c.from_residual.result c.from_residual.ensures.1 in
    rw (p.1, p.2) (sym (stays_first _ _ _ _ _ (sym c.in_err-check.ensures.value)))

pub returns-then-is_solvable-clause-value : goal.returns-then-is_solvable-clause-value
unfolding solvable_refusal
returns-then-is_solvable-clause-value c = rw (c.in_ok-check.ensures.in_range, sym c.is_solvable.ensures ∙ c.if-is_solvable.true) refl

pub returns-else-is_solvable-clause-value : goal.returns-else-is_solvable-clause-value
unfolding solvable_refusal
returns-else-is_solvable-clause-value c = rw (c.in_ok-check.ensures.in_range, sym c.is_solvable.ensures ∙ c.if-is_solvable.false) refl
