-- `solution::solution` meets its contract. Assumes nothing.
use mathlib.Core.Path.{◌≡◌, sym, ap, ap₂, ◌∙◌}
use mathlib.Core.List.{List}
use Prim.Native.Nat.{ℕ, ◌+◌, ◌-◌}
use lib.ListN.{length, take, drop}
use lib.Seq.{length-take-le}
use Rattle.cubie.specs.declared.CubieCube.{CubieCube}
use Rattle.refusal.proofs.Laws.{given}
use Rattle.stickers.specs.Reader.{cube_read, strict_refusal, read_strict}
use Rattle.lines.specs.Lines.{first_line, after_line, index_of}
use Rattle.lines.proofs.Parts.{to_the_end}
use Rattle.solution.specs.Request.{limit_text}
use Rattle.solution.specs.Text.{printed_as}
use Rattle.solution.proofs.Cases.{solution-long, solution-refused-as, solution-good}
use Rattle.solution.proofs.solution.Goals as goal

pub text_start-start-requires : goal.text_start-start-requires
text_start-start-requires c = c.find-end.ensures.within

pub returns-then-input-gt1024 : goal.returns-then-input-gt1024
returns-then-input-gt1024 c = record { value = c.print_refused.ensures.0 ∙ ap printed_as (sym (solution-long c.args.input.now c.args.moves.now c.args.prunes.now c.if-input-gt1024.true)); len_bound = c.print_refused.ensures.1 }

pub slice_bounds-read_strict-end : goal.slice_bounds-read_strict-end
slice_bounds-read_strict-end c = sym (length-take-le c.find-end.result c.args.input.now c.find-end.ensures.within)

pub returns-in-Err : goal.returns-in-Err
returns-in-Err c =
    let a = c.args in
    let s = a.input.now in
    let e = ap (λ (k : ℕ). read_strict (take k s)) (sym c.find-end.ensures.value) ∙ sym c.in-Err.ensures in
    record { value = c.print_refused-in-Err.ensures.0 ∙ ap printed_as (sym (solution-refused-as s a.moves.now a.prunes.now c.in-Err.r c.if-input-gt1024.false e)); len_bound = c.print_refused-in-Err.ensures.1 }

pub returns-in-Ok : goal.returns-in-Ok
returns-in-Ok c =
    let a = c.args in
    let s = a.input.now in
    let at : c.find-end.result ≡ index_of 10 s = c.find-end.ensures.value in
    let e = ap (λ (k : ℕ). read_strict (take k s)) (sym at) ∙ sym c.in-Ok.ensures in
    let g = given (strict_refusal (first_line s)) (cube_read (first_line s)) c.in-Ok.cube e in
    let start = c.text_start-start.result in
    let rest : take (length s - start) (drop start s) ≡ after_line s = to_the_end s start ∙ c.text_start-start.ensures.1 ∙ ap (λ (k : ℕ). drop (k + 1) s) at in
    let same = ap₂ (λ (x : CubieCube) (l : List ℕ). printed_as (limit_text x l a.moves.now a.prunes.now)) (sym g.1) rest in
    record { value = c.with_cube.ensures.0 ∙ same ∙ ap printed_as (sym (solution-good s a.moves.now a.prunes.now c.if-input-gt1024.false g.0)); len_bound = c.with_cube.ensures.1 }
