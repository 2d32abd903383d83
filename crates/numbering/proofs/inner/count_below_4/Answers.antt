-- `numbering::inner::count_below_4` meets its contract. Assumes nothing.
use mathlib.Core.Path.{◌≡◌, ◌∙◌}
use lib.Dec.{ltb}
use borrow.Author.Rules.{rules}
use Rattle.std.specs.List.{count_by}
use Rattle.numbering.proofs.Counting.{count-below}
use Rattle.numbering.proofs.inner.count_below_4.Goals as goal

pub returns : goal.returns
returns c =
    let e : c.count.result ≡ count_by (λ x. ltb x 4) c.args.s.now = search rules in
    e ∙ count-below 4 c.args.s.now
