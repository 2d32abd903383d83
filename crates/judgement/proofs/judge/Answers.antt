-- `judgement::judge` meets its contract. Assumes nothing.
use Rattle.std.proofs.Common.{sym, subst, IfOk, Result}
use Rattle.refusal.specs.declared.Refusal.{Refusal}
use Rattle.judgement.specs.Judge.{Short}
use Rattle.judgement.specs.declared.Score.{Score}
use Rattle.judgement.proofs.Refusals.{short-score}
use Rattle.judgement.proofs.judge.Goals as goal

pub print-requires : goal.print-requires
print-requires c = subst (λ (q : Result Score Refusal). IfOk q Short) (sym c.score.ensures) (short-score c.args.input.now)
