-- `index::ep_to_index` meets its contract. Assumes nothing.
use mathlib.Core.Path.{◌≡◌, sym, ◌∙◌}
use native.Mathlib.Omega.{arith}
use lib.ListN.{length}
use Rattle.base.proofs.Tests.{in_range-under, under_more}
use Rattle.numbering.proofs.Numbers.{number_small}
use borrow.Author.Rules.{rules}
use Rattle.index.proofs.ep_to_index.Goals as goal

pub all_differ-requires : goal.all_differ-requires
all_differ-requires c =
    let ep = c.args.ep in
    (search rules, under_more (omega arith) ep (in_range-under 12 ep (sym c.in_range.ensures ∙ c.if-not-in_range.false)))

pub overflow_cast-result : goal.overflow_cast-result
overflow_cast-result c =
    let ep = c.args.ep in
    let l : length ep ≡ 12 = search rules in
    omega (arith, c.slice_to_index.ensures, number_small 12 ep l)
