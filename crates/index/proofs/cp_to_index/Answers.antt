-- `index::cp_to_index` meets its contract. Assumes nothing.
use mathlib.Core.Path.{sym, ◌∙◌}
use native.Mathlib.Omega.{arith}
use Rattle.base.proofs.Tests.{in_range-under, under_more}
use borrow.Author.Rules.{rules}
use Rattle.index.proofs.cp_to_index.Goals as goal

pub all_differ-requires : goal.all_differ-requires
all_differ-requires c =
    let cp = c.args.cp in
    (search rules, under_more (omega arith) cp (in_range-under 8 cp (sym c.in_range.ensures ∙ c.if-not-in_range.false)))
