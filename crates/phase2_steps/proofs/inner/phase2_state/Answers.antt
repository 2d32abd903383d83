-- `phase2_steps::inner::phase2_state` meets its contract: the three numbers, each below its count. Assumes nothing.
use mathlib.Core.Path.{◌≡◌, refl}
use native.Mathlib.Omega.{arith}
use lib.ListN.{length, take, drop, length-take, length-drop}
use Rattle.numbering.proofs.Numbers.{number_small}
use borrow.Author.Rules.{rules}
use Rattle.phase2_steps.proofs.inner.phase2_state.Goals as goal

pub returns : goal.returns
returns c =
    let cube = c.args.cube in
    let cp = c.cp_to_index.ensures in
    let ud = c.ud_ep_to_index.ensures in
    let e = c.e_ep_to_index.ensures in
    let l : length cube.cp ≡ 8 = search rules in
    let n : length cube.ep ≡ 12 = search rules in (
      (λ i. record { a = cp i; b = ud i; c = e i }),
      (
        refl,
        record {
          a = omega (arith, cp, number_small 8 cube.cp l);
          b = omega (arith, ud, number_small 8 (take 8 (drop 4 cube.ep)) (simp (length-take, length-drop) (omega (arith, n))));
          c = omega (arith, e, number_small 4 (take 4 cube.ep) (simp length-take (omega (arith, n))));
        },
      ),
    )
