-- `permutation::inner::ud_ep_to_index` meets its contract. Assumes nothing.
use mathlib.Core.Path.{◌≡◌}
use native.Mathlib.Omega.{arith}
use lib.ListN.{length, take, drop, length-take, length-drop}
use Rattle.numbering.proofs.Numbers.{number_small}
use borrow.Author.Rules.{rules}
use Rattle.permutation.proofs.inner.ud_ep_to_index.Goals as goal

pub overflow_cast-result : goal.overflow_cast-result
overflow_cast-result c =
    let part = take 8 (drop 4 c.args.ep) in
    let l : length part ≡ 8 = simp (length-take, length-drop) (search rules) in
    omega (arith, c.slice_to_index.ensures, number_small 8 part l)
