-- `facelet::read_strict` meets its contract. Assumes nothing.
use Rattle.std.proofs.Common.{◌≡◌, true, false, List, ℕ, ap, sym, ◌∙◌, Ok}
use Rattle.std.proofs.lemmas.Result.{err_from_is_err_and}
use Rattle.base.specs.Lists.{same_list}
use Rattle.base.proofs.Tests.{eq_same_list}
use Rattle.cubie.specs.Cube.{refusal_of}
use Rattle.cubie.proofs.Range.{no-refusal}
use Rattle.refusal.proofs.Laws.{passes, refuses, stays_first}
use Rattle.stickers.specs.Picture.{picture}
use Rattle.stickers.specs.Reader.{cube_read, plain_refusal, strict_refusal}
use Rattle.stickers.proofs.Ranges.{read-range}
use Rattle.stickers.proofs.Strict.{strict_same, strict-differs}
use Rattle.facelet.proofs.read_strict.Goals as goal

pub returns-in_err-cube : goal.returns-in_err-cube
unfolding strict_refusal
returns-in_err-cube c =
    let p = err_from_is_err_and c.from_residual.result c.from_residual.ensures.1 in
    rw (p.1, p.2) (sym (stays_first (plain_refusal c.args.s.now) _ _ (cube_read c.args.s.now) _ (sym c.in_err-cube.ensures.value)))

pub picture_of-requires : goal.picture_of-requires
picture_of-requires c = ap refusal_of c.in_ok-cube.ensures.read.1 ∙ no-refusal (read-range c.args.s.now)

pub returns-then-eq : goal.returns-then-eq
returns-then-eq c =
    let s = c.args.s.now in
    let e : same_list (picture (cube_read s)) s ≡ true = ap (λ (l : List ℕ). same_list l s) (sym (c.as_slice.ensures ∙ c.picture_of.ensures ∙ ap picture c.in_ok-cube.ensures.read.1)) ∙ sym (eq_same_list c.as_slice.result.now s) ∙ sym c.if-eq.ensures in
    ap Ok c.in_ok-cube.ensures.read.1 ∙ sym (passes _ _ (strict_same s c.in_ok-cube.ensures.read.0 e))

pub returns-else-eq : goal.returns-else-eq
returns-else-eq c =
    let s = c.args.s.now in
    let e : same_list (picture (cube_read s)) s ≡ false = ap (λ (l : List ℕ). same_list l s) (sym (c.as_slice.ensures ∙ c.picture_of.ensures ∙ ap picture c.in_ok-cube.ensures.read.1)) ∙ sym (eq_same_list c.as_slice.result.now s) ∙ sym c.if-eq.ensures in
    sym (refuses _ 14 _ (strict-differs s c.in_ok-cube.ensures.read.0 e))
