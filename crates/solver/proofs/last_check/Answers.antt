-- `solver::last_check` meets its contract: a solution is tried on the cube, and all other answers are kept. Assumes nothing.
use mathlib.Core.Path.{sym, ◌∙◌}
use Rattle.search.proofs.Answered.{check-solved, check-kept}
use borrow.Author.Rules.{rules}
use Rattle.solver.proofs.last_check.Goals as goal

pub returns-then-solves_it-clause-value : goal.returns-then-solves_it-clause-value
returns-then-solves_it-clause-value c = sym (check-solved _ _ c.in-Solved.is (sym c.solves_it.ensures ∙ c.if-solves_it.true))

pub returns-else-solves_it-clause-value : goal.returns-else-solves_it-clause-value
returns-else-solves_it-clause-value c =
    c.no_lists.ensures ∙ sym (check-solved _ _ c.in-Solved.is (sym c.solves_it.ensures ∙ c.if-solves_it.false))

pub returns-in_default-clause-value : goal.returns-in_default-clause-value
returns-in_default-clause-value c = sym (check-kept _ _ (search rules))
