-- `words::inner::layer_of` meets its contract. Assumes nothing.
use borrow.Author.Tests.{ne_eqb}
use Rattle.words.specs.Text.{place}
use Rattle.words.proofs.inner.layer_of.Goals as goal

pub returns-in-85 : goal.returns-in-85
unfolding place
returns-in-85 c = rw c.in-85.is

pub returns-in-68 : goal.returns-in-68
unfolding place
returns-in-68 c = rw c.in-68.is

pub returns-in-82 : goal.returns-in-82
unfolding place
returns-in-82 c = rw c.in-82.is

pub returns-in-76 : goal.returns-in-76
unfolding place
returns-in-76 c = rw c.in-76.is

pub returns-in-70 : goal.returns-in-70
unfolding place
returns-in-70 c = rw c.in-70.is

pub returns-in-66 : goal.returns-in-66
unfolding place
returns-in-66 c = rw c.in-66.is

pub returns-in_default : goal.returns-in_default
unfolding place
returns-in_default c =
    let r = c.in_default.in_default-own.rest in
    simp (ne_eqb _ 85 r.0.0.0.0.0.1, ne_eqb _ 68 r.0.0.0.0.1, ne_eqb _ 82 r.0.0.0.1, ne_eqb _ 76 r.0.0.1, ne_eqb _ 70 r.0.1, ne_eqb _ 66 r.1)
