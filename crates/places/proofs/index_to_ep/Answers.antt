-- `places::index_to_ep` meets its contract. Assumes nothing.
use Rattle.std.proofs.Common.{ap, sym, ◌∙◌, Ok}
use Rattle.numbering.proofs.Fill.{add-zeros}
use Rattle.refusal.proofs.Laws.{passes, not_refused}
use Rattle.places.proofs.index_to_ep.Goals as goal

pub returns : goal.returns
returns c = ap Ok (c.fill_perm_slice.ensures ∙ add-zeros _) ∙ sym (passes _ _ (not_refused _ _ (sym c.in_ok-check_below.ensures.value)))
