-- `lines::inner::put_decimal` meets its contract: the digits before the last one are those of a tenth. Assumes nothing.
use mathlib.Core.Path.{sym, ap, ◌∙◌}
use mathlib.Core.List.{[], ◌∷◌}
use Prim.Native.Nat.{◌+◌, ◌/◌, ◌%◌, ◌≤◌, ◌<◌}
use native.Mathlib.Omega.{arith}
use lib.ListN.{length}
use Rattle.words.specs.Answers.{over}
use Rattle.lines.specs.Lines.{decimal}
use Rattle.lines.proofs.Written.{decimal-one, decimal-more, digits_more, behind, last_byte}
use Rattle.lines.proofs.inner.+put_decimal.Goals as goal

pub bounds-out-at : goal.bounds-out-at
bounds-out-at t c = omega (arith, c.requires, ap length (decimal-one c.args.n c.if-n-lt10.true))

pub returns-then-n-lt10 : goal.returns-then-n-lt10
returns-then-n-lt10 t c =
    let a = c.args in
    let d = a.out.now in
    let e = decimal-one a.n c.if-n-lt10.true in
    let room : a.at < length d = omega (arith, c.requires, ap length e) in
    record { value = omega (arith, ap length e); out_after = last_byte d a.at (48 + a.n) room ∙ ap (over d a.at) (sym e) }

pub put_decimal-end-requires : goal.put_decimal-end-requires
put_decimal-end-requires t c =
    let n = digits_more c.args.n c.if-n-lt10.false c.ranges.n.fits in
    (omega (arith, c.decreases, c.if-n-lt10.false), omega (arith, c.requires, n))

pub bounds-out-end : goal.bounds-out-end
bounds-out-end t c =
    let n = digits_more c.args.n c.if-n-lt10.false c.ranges.n.fits in
    omega (arith, c.requires, n, c.put_decimal-end.ensures.value, c.put_decimal-end.auto.out)

pub returns : goal.returns
returns t c =
    let a = c.args in
    let d = a.out.now in
    let r = c.put_decimal-end in
    let e = decimal-more a.n c.if-n-lt10.false c.ranges.n.fits in
    let n = digits_more a.n c.if-n-lt10.false c.ranges.n.fits in
    let front : a.at + length (decimal (a.n / 10)) ≤ length d = omega (arith, c.requires, n) in
    let room : r.result < length r.new.out = omega (arith, c.requires, n, r.ensures.value, r.auto.out) in
    let end = last_byte r.new.out r.result (48 + a.n % 10) room in
    record {
      value = omega (arith, n, r.ensures.value);
      out_after = behind d _ _ (decimal (a.n / 10)) ((48 + a.n % 10) ∷ []) a.at r.result front r.ensures.out_after r.ensures.value end ∙ ap (over d a.at) (sym e);
    }
