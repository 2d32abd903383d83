-- `pieces::inner::in_range` meets its contract. Assumes nothing.
use mathlib.Core.Path.{◌∙◌}
use lib.Dec.{ltb}
use Rattle.std.proofs.Common.{rules, tests}
use Rattle.std.proofs.lemmas.Iterator.{YieldsList-from_slice}
use Rattle.std.proofs.lemmas.Iterator.Search.{all_from_yields_List}
use Rattle.base.proofs.Tests.{all_in_range}
use Rattle.pieces.proofs.inner.in_range.Goals as goal

pub returns : goal.returns
returns c =
    let a = c.args in
    all_from_yields_List (λ x. ltb x a.n) _ _ c.all.result c.all.ensures.ran (YieldsList-from_slice a.s.now cc) (λ x b q k. search (rules, tests))
    ∙ all_in_range a.n a.s.now
