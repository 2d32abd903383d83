-- `judgement::inner::score_moves` meets its contract. Assumes nothing.
use Rattle.std.proofs.Common.{arith, refl, sym, ap, ◌∙◌, List, ℕ, length, take, replicate, Ok}
use Rattle.std.proofs.lemmas.Result.{err_from_is_err_and}
use Rattle.refusal.proofs.Laws.{passes}
use Rattle.words.specs.Text.{parse}
use Rattle.words.proofs.Over.{over-length}
use Rattle.judgement.specs.Judge.{score_moves, score_of, text_refusal}
use Rattle.judgement.proofs.Refusals.{text-scored, text-taken, first-places}
use Rattle.judgement.proofs.inner.score_moves.Goals as goal

pub slice_bounds-moves-end : goal.slice_bounds-moves-end
slice_bounds-moves-end c =
    let t = c.args.text.now in
    let k = text-taken t (replicate 255 0) c.in_ok-n.n refl (sym c.in_ok-n.ensures.value) in
    let room = c.scramble_from_str.ensures.moves_after ∙ k.2 in
    omega (arith, k.1, k.3, ap length room, over-length (replicate 255 0) 0 (parse t) (omega (arith, k.3)))

pub slice_bounds-score_list-end : goal.slice_bounds-score_list-end
slice_bounds-score_list-end c =
    let t = c.args.text.now in
    let k = text-taken t (replicate 255 0) c.in_ok-n.n refl (sym c.in_ok-n.ensures.value) in
    let room = c.scramble_from_str.ensures.moves_after ∙ k.2 in
    k.1 ∙ sym (ap (λ (l : List ℕ). length (take c.in_ok-n.n l)) room ∙ ap length (first-places (replicate 255 0) (parse t) _ k.1))

pub score_list-requires : goal.score_list-requires
score_list-requires c =
    let t = c.args.text.now in
    let k = text-taken t (replicate 255 0) c.in_ok-n.n refl (sym c.in_ok-n.ensures.value) in
    let room = c.scramble_from_str.ensures.moves_after ∙ k.2 in
    let e = ap (take c.in_ok-n.n) room ∙ first-places (replicate 255 0) (parse t) _ k.1 in
    (c.requires, rw e k.4)

pub returns-in_err-n : goal.returns-in_err-n
returns-in_err-n c =
    let p = err_from_is_err_and c.from_residual.result c.from_residual.ensures.1 in
    rw (p.1, p.2) (sym (text-scored c.args.cube c.args.text.now (replicate 255 0) _ refl (sym c.in_err-n.ensures.value)))

pub returns : goal.returns
unfolding score_moves
returns c =
    let t = c.args.text.now in
    let k = text-taken t (replicate 255 0) c.in_ok-n.n refl (sym c.in_ok-n.ensures.value) in
    let room = c.scramble_from_str.ensures.moves_after ∙ k.2 in
    let e = ap (take c.in_ok-n.n) room ∙ first-places (replicate 255 0) (parse t) _ k.1 in
    ap Ok (c.score_list.ensures ∙ ap (score_of c.args.cube) e) ∙ sym (passes (text_refusal t) _ k.0)
