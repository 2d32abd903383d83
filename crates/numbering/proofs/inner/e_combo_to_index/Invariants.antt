-- `numbering::inner::e_combo_to_index` meets its contract. The loop's invariant: the number so far and the number of the k pieces before place i make the
-- whole. Assumes nothing.
use Rattle.numbering.proofs.Combination.{Counted}
use Rattle.numbering.proofs.inner.e_combo_to_index.Given as goal

abbrev pub invariant-loop-i : goal.invariant-loop-i
invariant-loop-i l = Counted l.edge l.index l.k l.i
