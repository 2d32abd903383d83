-- `texts::judge_word` meets its contract. Assumes nothing.
use Rattle.std.proofs.Common.{arith, sym, ap, ◌∙◌, ℕ, ◌+◌, ◌*◌}
use Rattle.texts.specs.Judge.{score_word}
use Rattle.texts.proofs.Judged.{few-of, word-refused, word-yes, word-no}
use Rattle.texts.proofs.judge_word.Goals as goal
use Rattle.texts.proofs.judge_word.Goals.{then-score, else-score}

pub returns-in-Err : goal.returns-in-Err
returns-in-Err c = c.from-in-Err.ensures ∙ c.from.ensures ∙ sym (word-refused c.in-Err.r) ∙ ap score_word c.in-Err.ensures

pub overflow_mul-result : goal.overflow_mul-result
overflow_mul-result c =
    let few = few-of c.args.input.now c.in-Ok.score (sym c.in-Ok.ensures) in
    omega (arith, few.0)

pub overflow_mul-result-in-Ok : goal.overflow_mul-result-in-Ok
overflow_mul-result-in-Ok c =
    let few = few-of c.args.input.now c.in-Ok.score (sym c.in-Ok.ensures) in
    omega (arith, few.1)

pub overflow_add-result : goal.overflow_add-result
overflow_add-result c =
    let few = few-of c.args.input.now c.in-Ok.score (sym c.in-Ok.ensures) in
    omega (arith, few.0, few.1)

pub overflow_add-result-in-Ok : goal.overflow_add-result-in-Ok
overflow_add-result-in-Ok c =
    let few = few-of c.args.input.now c.in-Ok.score (sym c.in-Ok.ensures) in
    elim c.if-score.branch [ then-score w ↦ omega (arith, few.0, few.1) | else-score w ↦ omega (arith, few.0, few.1) ]

pub returns-after-score : goal.returns-after-score
returns-after-score c =
    let k = c.in-Ok.score in
    let told = ap score_word c.in-Ok.ensures in
    elim c.if-score.branch [
      | then-score w ↦ ap (λ (n : ℕ). 65536 * k.moves + 4294967296 * k.strokes + n) w.solved-is ∙ word-yes k w.if-score.true ∙ told
      | else-score w ↦ ap (λ (n : ℕ). 65536 * k.moves + 4294967296 * k.strokes + n) w.solved-is ∙ omega arith ∙ word-no k w.if-score.false ∙ told
    ]
