-- `numbering::inner::index_to_e_combo` meets its contract. The loop's invariant: the places from i on are filled, and the others, 4s still, are to hold what
-- rest says of k pieces. Assumes nothing.
use Rattle.numbering.proofs.Combination.{Filling}
use Rattle.numbering.proofs.inner.index_to_e_combo.Given as goal

abbrev pub invariant-loop-i : goal.invariant-loop-i
invariant-loop-i l = Filling l.initial.rest l.combo l.rest l.k l.i
