-- `solution::print_refused` meets its contract. Assumes nothing.
use Rattle.std.proofs.Common.{arith, ◌≡◌, ap, ◌∙◌, ℕ, length}
use Rattle.refusal.specs.Refusals.{number}
use Rattle.refusal.proofs.Laws.{number-small}
use Rattle.lines.specs.Lines.{line, refused_word}
use Rattle.solution.specs.Text.{printed_as}
use Rattle.solution.proofs.Sizes.{refused-le, is-printed}
use Rattle.solution.proofs.print_refused.Goals as goal

pub put_line-len-requires : goal.put_line-len-requires
put_line-len-requires c =
    let e : c.from-2.result ≡ number c.args.r = c.from-2.ensures ∙ c.from.ensures in
    omega (arith, refused-le c.from-2.result (omega (arith, e, number-small c.args.r)))

pub returns : goal.returns
returns c =
    let e : c.from-2.result ≡ number c.args.r = c.from-2.ensures ∙ c.from.ensures in
    let told : line refused_word c.from-2.result ≡ line refused_word (number c.args.r) = ap (λ (n : ℕ). line refused_word n) e in
    let len : c.put_line-len.result ≡ length (line refused_word c.from-2.result) = omega (arith, c.put_line-len.ensures.value) in
    (is-printed _ (line refused_word c.from-2.result) _ c.put_line-len.ensures.out_after len ∙ ap printed_as told, omega (arith, len, refused-le c.from-2.result (omega (arith, e, number-small c.args.r))))
