-- `lines::inner::find` meets its contract. Assumes nothing.
use mathlib.Core.Logic.{◌≢◌}
use mathlib.Core.Path.{◌≡◌, sym, ◌∙◌}
use borrow.Author.Rules.{rules}
use borrow.Author.Tests.{tests}
use Rattle.std.proofs.lemmas.Iterator.{YieldsList-from_slice, IsFirst-from_position, index_from_first}
use Rattle.lines.specs.Lines.{index_of}
use Rattle.lines.proofs.Parts.{found-here, found-later, found-nowhere}
use Rattle.lines.proofs.inner.find.Goals as goal

pub returns-clause-value : goal.returns-clause-value
returns-clause-value c =
    let s = c.args.s.now in
    let b = c.args.b in
    let first = IsFirst-from_position _ _ c.position.result (λ x. x ≡ b) (λ x. x ≢ b) c.position.ensures.ran (YieldsList-from_slice s cc) (λ x q k. search (rules, tests)) (λ x q k. search (rules, tests)) in
    c.unwrap_or.ensures ∙ sym (index_from_first (index_of b) (λ x. x ≡ b) (λ x. x ≢ b) (found-nowhere b) (found-here b) (found-later b) s c.position.result first)
