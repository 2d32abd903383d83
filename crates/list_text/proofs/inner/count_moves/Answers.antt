-- `list_text::inner::count_moves` meets its contract. Assumes nothing.
use mathlib.Core.Bool.{true}
use mathlib.Core.List.{[], ◌∷◌, map}
use mathlib.Core.Path.{◌≡◌, sym, ap}
use Prim.Native.Nat.{◌<◌}
use native.Mathlib.Omega.{arith}
use lib.Dec.{eqb}
use lib.ListN.{length, length-append, length-map}
use borrow.Author.Rules.{rules}
use borrow.Author.Tests.{tests}
use Rattle.std.proofs.lemmas.Iterator.Consumers.{YieldsList-turn, YieldsList-end}
use Rattle.std.proofs.lemmas.List.Elements.{All-append, All-map}
use Rattle.std.proofs.lemmas.Iterator.Splits.{YieldsList-from_slice_split}
use Rattle.base.specs.Lists.{in_range}
use Rattle.words.specs.Answers.{moves_counted}
use Rattle.words.specs.Text.{number_of}
use Rattle.words.proofs.Text.{parse-nothing}
use Rattle.list_text.proofs.Cut.{cut, parse-cut, no_list, all-moves}
use Rattle.list_text.proofs.inner.count_moves.Goals as goal

pub returns-then-is_empty : goal.returns-then-is_empty
unfolding moves_counted
returns-then-is_empty c = sym (ap moves_counted (parse-nothing c.args.text.now (search rules)))

pub returns-then-number_of-ge18 : goal.returns-then-number_of-ge18
unfolding moves_counted
returns-then-number_of-ge18 c =
    let t = c.args.text.now in
    let l = c.loop-word in
    let some : 0 < length t = search rules in
    let turn = YieldsList-turn (YieldsList-from_slice_split _ (λ b. eqb b 32) t (search rules) (search rules) (search rules) (λ x b q k. search (rules, tests)))
    l.yielded l.word-iterator l.yielded_by c.next.result c.next.new.self c.in-Some.word c.in-Some.is c.next.ensures.steps in
    let out = no_list (cut t) (length l.yielded) c.in-Some.word.now turn.0 turn.1 (omega (arith, c.number_of.ensures)) in
    rw (parse-cut t some, out)

pub loop-word-preserved : goal.loop-word-preserved
loop-word-preserved c = (omega (arith, length-append c.loop-word.yielded (c.in-Some.word ∷ [])), All-append (λ w. number_of w.now < 18) c.loop-word.yielded (c.in-Some.word ∷ []) c.loop-word.invariant.1 (search (rules, c.number_of.ensures)))

pub returns : goal.returns
unfolding moves_counted
returns c =
    let t = c.args.text.now in
    let l = c.loop-word in
    let some : 0 < length t = search rules in
    let end = YieldsList-end (YieldsList-from_slice_split _ (λ b. eqb b 32) t (search rules) (search rules) (search rules) (λ x b q k. search (rules, tests)))
    l.yielded l.word-iterator l.yielded_by c.next.result c.next.new.self c.in-None.is c.next.ensures.steps in
    let all : in_range 18 (map number_of (cut t)) ≡ true = rw (← end.0) (all-moves _ (All-map (λ w. number_of w < 18) (λ w. w.now) l.yielded l.invariant.1)) in
    let n : length (map number_of (cut t)) ≡ l.n = omega (arith, length-map (cut t) number_of, end.1) in
    rw (parse-cut t some, all, n)
