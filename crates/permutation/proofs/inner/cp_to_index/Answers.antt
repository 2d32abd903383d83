-- `permutation::inner::cp_to_index` meets its contract. Assumes nothing.
use mathlib.Core.Path.{◌≡◌}
use native.Mathlib.Omega.{arith}
use lib.ListN.{length}
use Rattle.numbering.proofs.Numbers.{number_small}
use borrow.Author.Rules.{rules}
use Rattle.permutation.proofs.inner.cp_to_index.Goals as goal

pub overflow_cast-result : goal.overflow_cast-result
overflow_cast-result c =
    let l : length c.args.cp ≡ 8 = search rules in
    omega (arith, c.slice_to_index.ensures, number_small 8 c.args.cp l)
