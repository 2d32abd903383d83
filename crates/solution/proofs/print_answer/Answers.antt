-- `solution::print_answer` meets its contract: a text for each outcome. Assumes nothing.
use mathlib.Core.Path.{sym, ap, ◌∙◌}
use Rattle.solution.specs.Text.{printed_as}
use Rattle.solution.proofs.Sizes.{answer-solved, answer-none, answer-spent, answer-refused}
use Rattle.solution.proofs.print_answer.Goals as goal

pub returns-in-Solved : goal.returns-in-Solved
returns-in-Solved c = (c.print_solved.ensures.0 ∙ ap printed_as (sym (answer-solved c.args.s c.in-Solved.is)), c.print_solved.ensures.1)

pub returns-in-Nothing : goal.returns-in-Nothing
returns-in-Nothing c = (c.print_bytes.ensures.0 ∙ ap printed_as (sym (answer-none c.args.s c.in-Nothing.is)), c.print_bytes.ensures.1)

pub returns-in-Spent : goal.returns-in-Spent
returns-in-Spent c = (c.print_bytes-in-Spent.ensures.0 ∙ ap printed_as (sym (answer-spent c.args.s c.in-Spent.is)), c.print_bytes-in-Spent.ensures.1)

pub returns-in-Refused : goal.returns-in-Refused
returns-in-Refused c = (c.print_refused.ensures.0 ∙ ap printed_as (sym (answer-refused c.args.s _ c.in-Refused.is)), c.print_refused.ensures.1)
