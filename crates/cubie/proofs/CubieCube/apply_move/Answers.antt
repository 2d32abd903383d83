-- `cubie::CubieCube::apply_move` meets its contract. Assumes nothing.
use Rattle.std.proofs.Common.{◌≡◌, refl, ap, ap₂, sym, ◌∙◌, Bool, true, false, ℕ, eqb, Result, Ok, Err}
use Rattle.std.proofs.lemmas.Result.{err_from_is_err_and}
use Rattle.std.specs.Result.{result_and}
use Rattle.base.specs.Lists.{pick}
use Rattle.refusal.specs.declared.Refusal.{Refusal}
use Rattle.refusal.specs.Refusals.{named, checked}
use Rattle.refusal.proofs.Laws.{not_refused, stays, passes}
use Rattle.moves.specs.Answers.{first_of}
use Rattle.moves.specs.Moves.{move_refusal}
use Rattle.cubie.specs.Cube.{refusal_of}
use Rattle.cubie.proofs.CubieCube.apply_move.Goals as goal

-- of two checks the first that refuses is told
first-checked : (m n : ℕ) → result_and (checked m) (checked n) ≡ checked (first_of m n)
unfolding first_of
first-checked m n = go (eqb m 0) refl
  where
    go : (p : Bool) → eqb m 0 ≡ p → result_and (pick {A = Result (Unit {0}) Refusal} p (Ok tt) (Err (named m))) (checked n) ≡ checked (pick p n m)
    go true e = refl
    go false e = rw e refl

pub returns-in_err-and : goal.returns-in_err-and
returns-in_err-and c =
    let p = err_from_is_err_and c.from_residual.result c.from_residual.ensures.1 in
    let a = refusal_of c.args.self in
    let b = move_refusal c.args.m in
    let e = sym (first-checked a b) ∙ ap₂ result_and (sym c.check.ensures.value) (sym c.check_move.ensures.value) ∙ sym c.in_err-and.ensures in
    rw (p.1, p.2) (sym (stays (first_of a b) _ _ e))

pub returns : goal.returns
returns c =
    let a = refusal_of c.args.self in
    let b = move_refusal c.args.m in
    let e = sym (first-checked a b) ∙ ap₂ result_and (sym c.check.ensures.value) (sym c.check_move.ensures.value) ∙ sym c.in_ok-and.ensures in
    ap Ok c.apply_move.ensures ∙ sym (passes (first_of a b) _ (not_refused (first_of a b) _ e))
