-- `cubie::CubieCube::mul` meets its contract. Assumes nothing.
use Rattle.std.proofs.Common.{ap, ap₂, sym, ◌∙◌, Ok}
use Rattle.std.proofs.lemmas.Result.{err_from_is_err_and}
use Rattle.refusal.specs.Refusals.{lowest}
use Rattle.refusal.proofs.Laws.{not_refused, stays, passes}
use Rattle.moves.proofs.Answers.{lowest_checked, lowest-none}
use Rattle.cubie.proofs.Range.{refusal-small}
use Rattle.cubie.proofs.CubieCube.mul.Goals as goal

pub mul-requires : goal.mul-requires
mul-requires c =
    lowest-none _ _ (not_refused _ _
    (sym (lowest_checked _ _ (refusal-small c.args.self) (refusal-small c.args.rhs)) ∙ sym (ap₂ lowest c.check.ensures.value c.check-2.ensures.value) ∙ sym c.in_ok-lowest.ensures))

pub returns-in_err-lowest : goal.returns-in_err-lowest
returns-in_err-lowest c =
    let p = err_from_is_err_and c.from_residual.result c.from_residual.ensures.1 in
    rw (p.1, p.2)
    (sym (stays _ _ _
    (sym (lowest_checked _ _ (refusal-small c.args.self) (refusal-small c.args.rhs)) ∙ sym (ap₂ lowest c.check.ensures.value c.check-2.ensures.value) ∙ sym c.in_err-lowest.ensures)))

pub returns : goal.returns
returns c =
    ap Ok c.mul.ensures
    ∙ sym (passes _ _ (not_refused _ _
    (sym (lowest_checked _ _ (refusal-small c.args.self) (refusal-small c.args.rhs)) ∙ sym (ap₂ lowest c.check.ensures.value c.check-2.ensures.value) ∙ sym c.in_ok-lowest.ensures)))
