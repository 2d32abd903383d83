-- `solution::amount` meets its contract. At the head of the loop, what is left tells what all told. Assumes nothing.
use mathlib.Core.Path.{sym, ◌∙◌}
use native.Mathlib.Omega.{arith}
use lib.ListN.{get_or}
use borrow.Author.Tests.{leb-true}
use Rattle.base.proofs.Tests.{and-true}
use Rattle.solution.proofs.Amounts.{read-other, read-digit, read-end, value-next, amount-usual, amount-long, amount-read}
use Rattle.solution.proofs.amount.Goals as goal

pub returns-then-n-eq0 : goal.returns-then-n-eq0
returns-then-n-eq0 c = amount-usual c.args.usual c.args.text.now c.if-n-eq0.true

pub returns-then-n-gt10 : goal.returns-then-n-gt10
returns-then-n-gt10 c = amount-long c.args.usual c.args.text.now c.if-n-gt10.true

pub returns-then-not-is_ascii_digit : goal.returns-then-not-is_ascii_digit
returns-then-not-is_ascii_digit c =
    let s = c.args.text.now in
    let l = c.loop-c in
    let other = sym c.is_ascii_digit.ensures.value ∙ c.if-not-is_ascii_digit.true in
    read-other s l.c-index l.value (omega arith) other ∙ l.invariant.1 ∙ amount-read c.args.usual s c.if-n-eq0.false c.if-n-gt10.false

pub loop-c-preserved : goal.loop-c-preserved
loop-c-preserved c =
    let s = c.args.text.now in
    let l = c.loop-c in
    let digit = and-true _ _ (sym c.is_ascii_digit.ensures.value ∙ c.if-not-is_ascii_digit.false) in
    let low = leb-true 48 _ digit.0 in
    let high = leb-true _ 57 digit.1 in
    (value-next l.value (get_or s l.c-index 0) l.c-index l.invariant.0 high, read-digit s l.c-index l.value (omega arith) low high ∙ l.invariant.1)

pub returns : goal.returns
returns c =
    let s = c.args.text.now in
    let l = c.loop-c in
    read-end s l.c-index l.value (omega arith) ∙ l.invariant.1 ∙ amount-read c.args.usual s c.if-n-eq0.false c.if-n-gt10.false
