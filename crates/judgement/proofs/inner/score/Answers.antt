-- `judgement::inner::score` meets its contract. Assumes nothing.
use Rattle.std.proofs.Common.{◌≡◌, refl, sym, ap, ◌∙◌, List, ℕ, ◌+◌, ◌-◌, length, take, drop}
use Rattle.std.proofs.Math.Seq.{length-take-le}
use Rattle.std.proofs.lemmas.Result.{err_from_is_err_and}
use borrow.Author.Tests.{le-leb, lt-leb, eq-eqb}
use Rattle.cubie.specs.declared.CubieCube.{CubieCube}
use Rattle.refusal.proofs.Laws.{given}
use Rattle.stickers.specs.Reader.{cube_read, strict_refusal, read_strict}
use Rattle.stickers.proofs.Ranges.{read-range}
use Rattle.judgement.specs.Judge.{closed, score_moves, score_lines, scored}
use Rattle.lines.specs.Lines.{first_line, index_of}
use Rattle.lines.proofs.Parts.{to_the_end}
use Rattle.judgement.proofs.Refusals.{lines-refused}
use Rattle.judgement.proofs.inner.score.Goals as goal

pub returns-then-input-gt-MAX_INPUT : goal.returns-then-input-gt-MAX_INPUT
unfolding scored
returns-then-input-gt-MAX_INPUT c = rw (lt-leb (length c.args.input.now) 1024 c.if-input-gt-MAX_INPUT.true) refl

pub slice_bounds-read_strict-end : goal.slice_bounds-read_strict-end
slice_bounds-read_strict-end c = sym (length-take-le c.find-end.result c.args.input.now c.find-end.ensures.within)

pub text_start-start-requires : goal.text_start-start-requires
text_start-start-requires c = c.find-end.ensures.within

pub score_text-requires : goal.score_text-requires
score_text-requires c =
    let s = c.args.input.now in
    let read = ap (λ (k : ℕ). read_strict (take k s)) (sym c.find-end.ensures.value) ∙ sym c.in_ok-cube.ensures in
    let g = given (strict_refusal (first_line s)) (cube_read (first_line s)) c.in_ok-cube.cube read in
    rw (sym g.1) (read-range (first_line s))

pub returns-in_err-cube : goal.returns-in_err-cube
unfolding scored
returns-in_err-cube c =
    let s = c.args.input.now in
    let p = err_from_is_err_and c.from_residual.result c.from_residual.ensures.1 in
    let read = ap (λ (k : ℕ). read_strict (take k s)) (sym c.find-end.ensures.value) ∙ sym c.in_err-cube.ensures in
    rw (p.1, p.2, le-leb (length s) 1024 c.if-input-gt-MAX_INPUT.false) (sym (lines-refused (first_line s) _ _ read))

pub returns : goal.returns
unfolding scored score_lines
returns c =
    let s = c.args.input.now in
    let at : c.find-end.result ≡ index_of 10 s = c.find-end.ensures.value in
    let read = ap (λ (k : ℕ). read_strict (take k s)) (sym at) ∙ sym c.in_ok-cube.ensures in
    let g = given (strict_refusal (first_line s)) (cube_read (first_line s)) c.in_ok-cube.cube read in
    let rest : drop c.text_start-start.result s ≡ drop (index_of 10 s + 1) s = c.text_start-start.ensures.1 ∙ ap (λ (k : ℕ). drop (k + 1) s) at in
    c.score_text.ensures
    ∙ ap (λ (d : CubieCube). score_moves d (closed (take (length s - c.text_start-start.result) (drop c.text_start-start.result s)))) (sym g.1)
    ∙ ap (λ (t : List ℕ). score_moves (cube_read (first_line s)) (closed t)) (to_the_end s c.text_start-start.result ∙ rest)
    ∙ rw (le-leb (length s) 1024 c.if-input-gt-MAX_INPUT.false, eq-eqb (strict_refusal (first_line s)) 0 g.0) refl
