-- `texts::judge` meets its contract. Assumes nothing.
use Rattle.std.proofs.Common.{arith, ◌≡◌, refl, ap, ◌∙◌, length}
use Rattle.std.proofs.lemmas.Result.{err_from_is_err_and}
use borrow.Author.Tests.{eq-eqb, ne_eqb}
use Rattle.refusal.specs.Refusals.{number}
use Rattle.judgement.specs.declared.Printed.{Printed}
use Rattle.judgement.proofs.Written.{printed-sizes}
use Rattle.texts.specs.Judge.{judge_number, judge_room, judge_count}
use Rattle.texts.proofs.judge.Goals as goal

pub returns-in_err-check_len : goal.returns-in_err-check_len
unfolding judge_number judge_room judge_count
returns-in_err-check_len c =
    let p = err_from_is_err_and c.from_residual.result c.from_residual.ensures.1 in
    let e = ne_eqb (length c.args.out.now) 64 c.in_err-check_len.ensures.err.1 in
    record { value = rw (p.1, p.2, e) (ap number c.in_err-check_len.ensures.err.0); out_after = rw e refl; count_after = rw e refl }

pub copy_from_slice-requires : goal.copy_from_slice-requires
copy_from_slice-requires c =
    let size : length c.judge-said.result.text ≡ 64 = ap (λ (p : Printed). length p.text) c.judge-said.ensures ∙ (printed-sizes c.args.input.now).0 in
    omega (arith, size, c.in_ok-check_len.ensures.ok)

pub returns : goal.returns
unfolding judge_number judge_room judge_count
returns c =
    let is = c.judge-said.ensures in
    let e = eq-eqb (length c.args.out.now) 64 c.in_ok-check_len.ensures.ok in
    record {
      value = rw e refl;
      out_after = rw e (c.copy_from_slice.ensures.after ∙ ap (λ (p : Printed). p.text) is);
      count_after = rw e (ap (λ (p : Printed). p.len) is);
    }
