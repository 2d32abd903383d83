-- `turning::inner::twist` meets its contract. The loop's invariant: what is written is the front of the twists. Assumes nothing.
use borrow.Author.Rules.{rules}
use mathlib.Core.Path.{◌≡◌, sym, ◌∙◌}
use lib.ListN.{length, length-set}
use Rattle.base.specs.Product.{twisted}
use Rattle.base.proofs.Product.{twisted-at, twisted-length}
use Rattle.base.proofs.Steps.{written-more, written_all}
use Rattle.turning.proofs.inner.twist.Goals as goal

pub loop-i-preserved : goal.loop-i-preserved
loop-i-preserved c =
    let a = c.args in
    let l = c.loop-i in
    let q = a.q.now in
    let s = a.s.now in
    let same : length s ≡ length q = search rules in
    let size : length (twisted a.k a.t.now q s) ≡ length l.out = twisted-length a.k a.t.now q s same ∙ c.requires.q_len.0 ∙ sym l.invariant.0 in (
      length-set l.out l.i _ ∙ l.invariant.0,
      written-more l.out (twisted a.k a.t.now q s) l.i size l.invariant.1 _ (search rules) (sym (twisted-at a.k a.t.now q s l.i (search rules) same)),
    )

pub returns : goal.returns
returns c =
    let a = c.args in
    let l = c.loop-i in
    let q = a.q.now in
    let s = a.s.now in
    let same : length s ≡ length q = search rules in
    let size : length (twisted a.k a.t.now q s) ≡ length l.out = twisted-length a.k a.t.now q s same ∙ c.requires.q_len.0 ∙ sym l.invariant.0 in
    written_all l.out (twisted a.k a.t.now q s) l.i size l.invariant.1 (search rules)
