-- `solution::with_limit` meets its contract. Assumes nothing.
use mathlib.Core.Path.{◌≡◌, sym, ap, ◌∙◌}
use Prim.Native.Nat.{ℕ, ◌+◌, ◌≤◌, ◌<◌}
use native.Mathlib.Omega.{arith}
use lib.ListN.{length, take}
use lib.Seq.{length-take-le}
use Rattle.lines.specs.Lines.{index_of}
use Rattle.search.specs.declared.Solution.{Solution}
use Rattle.solution.specs.Request.{amount_of}
use Rattle.solution.specs.Text.{answer_text, printed_as}
use Rattle.solution.proofs.Cases.{budget-none, budget-above, budget-more, budget-good}
use borrow.Author.Rules.{rules}
use Rattle.solution.proofs.with_limit.Goals as goal

pub slice_bounds-amount-end : goal.slice_bounds-amount-end
slice_bounds-amount-end c = sym (length-take-le c.find-end.result c.args.text.now c.find-end.ensures.within)

pub returns-in_default : goal.returns-in_default
returns-in_default c =
    let a = c.args in
    let t = a.text.now in
    let e = ap (λ (k : ℕ). amount_of 1000000000 (take k t)) (sym c.find-end.ensures.value) ∙ sym c.amount.ensures ∙ c.in_default.is in
    (c.print_bytes.ensures.0 ∙ ap printed_as (sym (budget-none a.cube a.limit t a.moves.now a.prunes.now e)), c.print_bytes.ensures.1)

pub returns-then-budget-gt4294967295 : goal.returns-then-budget-gt4294967295
returns-then-budget-gt4294967295 c =
    let a = c.args in
    let t = a.text.now in
    let e = ap (λ (k : ℕ). amount_of 1000000000 (take k t)) (sym c.find-end.ensures.value) ∙ sym c.in-Some.ensures in
    (c.print_bytes-then-budget-gt4294967295.ensures.0 ∙ ap printed_as (sym (budget-above a.cube a.limit t a.moves.now a.prunes.now c.in-Some.budget e c.if-budget-gt4294967295.true)), c.print_bytes-then-budget-gt4294967295.ensures.1)

pub overflow_add-end : goal.overflow_add-end
overflow_add-end c =
    let within = c.find-end.ensures.within in
    let fits = c.well_formed in
    search rules

pub returns-then-end-text : goal.returns-then-end-text
returns-then-end-text c =
    let a = c.args in
    let t = a.text.now in
    let at : c.find-end.result ≡ index_of 10 t = c.find-end.ensures.value in
    let e = ap (λ (k : ℕ). amount_of 1000000000 (take k t)) (sym at) ∙ sym c.in-Some.ensures in
    let more : index_of 10 t + 1 < length t = omega (arith, at, c.if-end-text.true) in
    (c.print_bytes-then-end-text.ensures.0 ∙ ap printed_as (sym (budget-more a.cube a.limit t a.moves.now a.prunes.now c.in-Some.budget e c.if-budget-gt4294967295.false more)), c.print_bytes-then-end-text.ensures.1)

pub returns : goal.returns
returns c =
    let a = c.args in
    let t = a.text.now in
    let at : c.find-end.result ≡ index_of 10 t = c.find-end.ensures.value in
    let e = ap (λ (k : ℕ). amount_of 1000000000 (take k t)) (sym at) ∙ sym c.in-Some.ensures in
    let none : length t ≤ index_of 10 t + 1 = omega (arith, at, c.if-end-text.false) in
    (c.print_answer.ensures.0 ∙ ap (λ (s : Solution). printed_as (answer_text s)) c.solve.ensures.value ∙ ap printed_as (sym (budget-good a.cube a.limit t a.moves.now a.prunes.now c.in-Some.budget e c.if-budget-gt4294967295.false none)), c.print_answer.ensures.1)
