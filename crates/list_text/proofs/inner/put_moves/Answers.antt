-- `list_text::inner::put_moves` meets its contract. Assumes nothing.
use mathlib.Core.Path.{◌≡◌, sym, ap, ap₂, ◌∙◌}
use mathlib.Core.List.{List, [], ◌∷◌, ◌++◌}
use Prim.Native.Nat.{ℕ, ◌+◌, ◌<◌}
use native.Mathlib.Omega.{arith}
use lib.Dec.{eqb}
use lib.ListN.{length, drop, set, length-append, length-map}
use borrow.Author.Rules.{rules}
use borrow.Author.Tests.{tests}
use Rattle.std.proofs.lemmas.List.FromFn.{length-enumerate_from}
use Rattle.std.proofs.lemmas.Iterator.Consumers.{YieldsList-from_enumerate, YieldsList-turn, YieldsList-end}
use Rattle.std.proofs.lemmas.Iterator.Splits.{YieldsList-from_slice_split}
use Rattle.words.specs.Answers.{over}
use Rattle.words.specs.Text.{number_of, parse}
use Rattle.list_text.proofs.Cut.{cut, parse-cut, text-some, word_at, put-next, put-end}
use Rattle.list_text.proofs.inner.put_moves.Goals as goal

pub bounds-moves-i : goal.bounds-moves-i
bounds-moves-i c =
    let t = c.args.text.now in
    let l = c.loop-i in
    let some : 0 < length t = text-some t (omega (arith, c.requires.0)) in
    let turn = YieldsList-turn (YieldsList-from_enumerate (YieldsList-from_slice_split _ (λ b. eqb b 32) t (search rules) (search rules) (search rules) (λ x b q k. search (rules, tests))) (search rules))
    l.yielded l.i-iterator l.yielded_by c.next.result c.next.new.self (c.in-Some.i, c.in-Some.word) c.in-Some.is c.next.ensures.steps in
    let here = word_at t (length l.yielded) c.in-Some.i c.in-Some.word.now some turn.0 turn.1 in
    omega (arith, here, c.requires)

pub loop-i-preserved : goal.loop-i-preserved
loop-i-preserved c =
    let t = c.args.text.now in
    let l = c.loop-i in
    let some : 0 < length t = text-some t (omega (arith, c.requires.0)) in
    let turn = YieldsList-turn (YieldsList-from_enumerate (YieldsList-from_slice_split _ (λ b. eqb b 32) t (search rules) (search rules) (search rules) (λ x b q k. search (rules, tests))) (search rules))
    l.yielded l.i-iterator l.yielded_by c.next.result c.next.new.self (c.in-Some.i, c.in-Some.word) c.in-Some.is c.next.ensures.steps in
    let here = word_at t (length l.yielded) c.in-Some.i c.in-Some.word.now some turn.0 turn.1 in
    let n : length (l.yielded ++ ((c.in-Some.i, c.in-Some.word) ∷ [])) ≡ length l.yielded + 1 = length-append l.yielded _ in (
      search rules,
      search rules,
      ap₂ (λ (k : ℕ) (d : List ℕ). over d k (drop k (parse t))) n (ap₂ (set l.moves) here.1 (c.number_of.ensures ∙ here.2))
          ∙ put-next (parse t) l.moves (length l.yielded) here.0 (omega (arith, here, c.requires))
          ∙ l.invariant.2,
    )

pub returns : goal.returns
returns c =
    let t = c.args.text.now in
    let l = c.loop-i in
    let some : 0 < length t = text-some t (omega (arith, c.requires.0)) in
    let end = YieldsList-end (YieldsList-from_enumerate (YieldsList-from_slice_split _ (λ b. eqb b 32) t (search rules) (search rules) (search rules) (λ x b q k. search (rules, tests))) (search rules))
    l.yielded l.i-iterator l.yielded_by c.next.result c.next.new.self c.in-None.is c.next.ensures.steps in
    sym (put-end (parse t) l.moves (length l.yielded) (omega (arith, end.1, length-enumerate_from 0 (cut t), ap length (parse-cut t some), length-map (cut t) number_of))) ∙ l.invariant.2
