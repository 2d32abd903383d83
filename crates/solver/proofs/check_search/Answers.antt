-- `solver::check_search` meets its contract: the tests in their order. Assumes nothing.
use Rattle.std.proofs.Common.{ap, sym, ◌∙◌}
use Rattle.refusal.specs.Refusals.{checked}
use Rattle.refusal.proofs.Laws.{refuses}
use Rattle.search.proofs.Answered.{over-limit, other-moves, other-prunes, of-the-cube}
use Rattle.solver.proofs.check_search.Goals.{then-moves-ne-MOVES_LEN-via-then-moves-ne-MOVES_LEN, then-moves-ne-MOVES_LEN-via-else-moves-ne-MOVES_LEN+then-prunes-ne-PRUNES_LEN}
use Rattle.solver.proofs.check_search.Goals as goal

pub returns-then-limit-gt31-clause-value : goal.returns-then-limit-gt31-clause-value
returns-then-limit-gt31-clause-value c = sym (refuses _ 8 _ (over-limit _ _ _ _ c.if-limit-gt31.true))

pub returns-then-moves-ne-MOVES_LEN-clause-value : goal.returns-then-moves-ne-MOVES_LEN-clause-value
returns-then-moves-ne-MOVES_LEN-clause-value c =
    elim c.then-moves-ne-MOVES_LEN.branch [
      | then-moves-ne-MOVES_LEN-via-then-moves-ne-MOVES_LEN w ↦ sym (refuses _ 9 _ (other-moves _ _ _ _ c.if-limit-gt31.false w.if-moves-ne-MOVES_LEN.true))
      | then-moves-ne-MOVES_LEN-via-else-moves-ne-MOVES_LEN+then-prunes-ne-PRUNES_LEN w ↦
          sym (refuses _ 9 _ (other-prunes _ _ _ _ c.if-limit-gt31.false w.if-moves-ne-MOVES_LEN.false w.if-prunes-ne-PRUNES_LEN.true))
    ]

pub returns-clause-value : goal.returns-clause-value
returns-clause-value c = c.check_solvable.ensures.value ∙ sym (ap checked (of-the-cube _ _ _ _ c.if-limit-gt31.false c.if-moves-ne-MOVES_LEN.false c.if-prunes-ne-PRUNES_LEN.false))
