-- `permutation::inner::e_ep_to_index` meets its contract. Assumes nothing.
use mathlib.Core.Path.{◌≡◌}
use native.Mathlib.Omega.{arith}
use lib.ListN.{length, take, length-take}
use Rattle.numbering.proofs.Numbers.{number_small}
use borrow.Author.Rules.{rules}
use Rattle.permutation.proofs.inner.e_ep_to_index.Goals as goal

pub overflow_cast-result : goal.overflow_cast-result
overflow_cast-result c =
    let part = take 4 c.args.ep in
    let l : length part ≡ 4 = simp length-take (search rules) in
    omega (arith, c.slice_to_index.ensures, number_small 4 part l)
