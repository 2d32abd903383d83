-- `judgement::inner::put_solved` meets its contract. Assumes nothing.
use Rattle.judgement.specs.Judge.{solved_line}
use Rattle.judgement.proofs.inner.put_solved.Goals as goal

pub put_bytes-requires : goal.put_bytes-requires
unfolding solved_line
put_bytes-requires c = rw c.if-solved.true at c.requires

pub returns-then-solved : goal.returns-then-solved
unfolding solved_line
returns-then-solved c = rw c.if-solved.true c.put_bytes.ensures

pub put_bytes-requires-else-solved : goal.put_bytes-requires-else-solved
unfolding solved_line
put_bytes-requires-else-solved c = rw c.if-solved.false at c.requires

pub returns-else-solved : goal.returns-else-solved
unfolding solved_line
returns-else-solved c = rw c.if-solved.false c.put_bytes-else-solved.ensures
