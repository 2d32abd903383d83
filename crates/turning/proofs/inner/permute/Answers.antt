-- `turning::inner::permute` meets its contract. The loop's invariant: what is written is the front of the product. Assumes nothing.
use borrow.Author.Rules.{rules}
use mathlib.Core.Path.{◌≡◌, sym, ◌∙◌}
use lib.ListN.{length, get_or, length-set, length-map}
use Rattle.base.specs.Product.{compose}
use Rattle.base.proofs.Product.{map_at}
use Rattle.base.proofs.Steps.{written-more, written_all}
use Rattle.turning.proofs.inner.permute.Goals as goal

pub loop-i-preserved : goal.loop-i-preserved
loop-i-preserved c =
    let a = c.args in
    let l = c.loop-i in
    let p = a.p.now in
    let q = a.q.now in
    let size : length (compose p q) ≡ length l.out = length-map q (λ i. get_or p i 0) ∙ c.requires.0 ∙ sym l.invariant.0 in (
      length-set l.out l.i _ ∙ l.invariant.0,
      written-more l.out (compose p q) l.i size l.invariant.1 _ (search rules) (sym (map_at (λ i. get_or p i 0) q l.i (search rules))),
    )

pub returns : goal.returns
returns c =
    let q = c.args.q.now in
    let l = c.loop-i in
    let size : length (compose c.args.p.now q) ≡ length l.out = length-map q (λ i. get_or c.args.p.now i 0) ∙ c.requires.0 ∙ sym l.invariant.0 in
    written_all l.out (compose c.args.p.now q) l.i size l.invariant.1 (search rules)
