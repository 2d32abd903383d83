-- `search_calls::solve` meets its contract: the limit, the lengths of the lent memory, and then what the search answers. Assumes nothing.
use Rattle.search_calls.proofs.Left.{late}
use Rattle.search_calls.proofs.solve.Goals as goal

pub returns-then-limit-gt31-clause-one_after : goal.returns-then-limit-gt31-clause-one_after
returns-then-limit-gt31-clause-one_after c =
    let a = c.args in
    (late a.cube.now a.limit a.budget a.moves.now a.prunes.now a.one.now a.two.now c.if-limit-gt31.true).1.0

pub returns-then-limit-gt31-clause-two_after : goal.returns-then-limit-gt31-clause-two_after
returns-then-limit-gt31-clause-two_after c =
    let a = c.args in
    (late a.cube.now a.limit a.budget a.moves.now a.prunes.now a.one.now a.two.now c.if-limit-gt31.true).1.1
