-- `solution::with_cube` meets its contract. Assumes nothing.
use mathlib.Core.Path.{◌≡◌, sym, ap, ◌∙◌}
use mathlib.Core.List.{List}
use Prim.Native.Nat.{ℕ, ◌+◌, ◌-◌}
use lib.ListN.{length, take, drop}
use lib.Seq.{length-take-le}
use Rattle.lines.specs.Lines.{after_line, index_of}
use Rattle.lines.proofs.Parts.{to_the_end}
use Rattle.solution.specs.Request.{amount_of, budget_text}
use Rattle.solution.specs.Text.{printed_as}
use Rattle.solution.proofs.Cases.{limit-none, limit-above, limit-good}
use Rattle.solution.proofs.with_cube.Goals as goal

pub slice_bounds-amount-end : goal.slice_bounds-amount-end
slice_bounds-amount-end c = sym (length-take-le c.find-end.result c.args.text.now c.find-end.ensures.within)

pub text_start-start-requires : goal.text_start-start-requires
text_start-start-requires c = c.find-end.ensures.within

pub returns-in_default : goal.returns-in_default
returns-in_default c =
    let a = c.args in
    let t = a.text.now in
    let e = ap (λ (k : ℕ). amount_of 23 (take k t)) (sym c.find-end.ensures.value) ∙ sym c.amount.ensures ∙ c.in_default.is in
    (c.print_refused.ensures.0 ∙ ap printed_as (sym (limit-none a.cube t a.moves.now a.prunes.now e)), c.print_refused.ensures.1)

pub returns-then-limit-gt-MAX_LIMIT : goal.returns-then-limit-gt-MAX_LIMIT
returns-then-limit-gt-MAX_LIMIT c =
    let a = c.args in
    let t = a.text.now in
    let e = ap (λ (k : ℕ). amount_of 23 (take k t)) (sym c.find-end.ensures.value) ∙ sym c.in-Some.ensures in
    (c.print_refused-then-limit-gt-MAX_LIMIT.ensures.0 ∙ ap printed_as (sym (limit-above a.cube t a.moves.now a.prunes.now c.in-Some.limit e c.if-limit-gt-MAX_LIMIT.true)), c.print_refused-then-limit-gt-MAX_LIMIT.ensures.1)

pub returns : goal.returns
returns c =
    let a = c.args in
    let t = a.text.now in
    let at : c.find-end.result ≡ index_of 10 t = c.find-end.ensures.value in
    let e = ap (λ (k : ℕ). amount_of 23 (take k t)) (sym at) ∙ sym c.in-Some.ensures in
    let start = c.text_start-start.result in
    let rest : take (length t - start) (drop start t) ≡ after_line t = to_the_end t start ∙ c.text_start-start.ensures.1 ∙ ap (λ (k : ℕ). drop (k + 1) t) at in
    let same = ap (λ (l : List ℕ). printed_as (budget_text a.cube c.in-Some.limit l a.moves.now a.prunes.now)) rest in
    (c.with_limit.ensures.0 ∙ same ∙ ap printed_as (sym (limit-good a.cube t a.moves.now a.prunes.now c.in-Some.limit e c.if-limit-gt-MAX_LIMIT.false)), c.with_limit.ensures.1)
