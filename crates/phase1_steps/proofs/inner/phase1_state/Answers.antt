-- `phase1_steps::inner::phase1_state` meets its contract: the three numbers, each below its count. Assumes nothing.
use mathlib.Core.Path.{◌≡◌, refl, sym, subst}
use lib.ListN.{length}
use Rattle.cubie.proofs.Range.{ranges, in-range}
use Rattle.numbering.proofs.Phases.{four_low}
use Rattle.phase2_steps.specs.Rules.{Below, phase1}
use Rattle.phase1_steps.specs.First.{coords1}
use Rattle.phase1_steps.proofs.Found.{coords-below}
use borrow.Author.Rules.{rules}
use Rattle.phase1_steps.proofs.inner.phase1_state.Goals as goal

pub co_to_index-requires : goal.co_to_index-requires
co_to_index-requires c = (ranges c.args.cube c.requires.0).1

pub eo_to_index-requires : goal.eo_to_index-requires
eo_to_index-requires c = (ranges c.args.cube c.requires.0).3

pub e_combo_to_index-requires : goal.e_combo_to_index-requires
e_combo_to_index-requires c =
    let cube = c.args.cube in
    let m : length cube.cp ≡ 8 = search rules in
    let n : length cube.co ≡ 8 = search rules in
    let p : length cube.ep ≡ 12 = search rules in
    let q : length cube.eo ≡ 12 = search rules in
    four_low cube (in-range cube c.requires.0 m n p q) c.requires.1

pub returns : goal.returns
returns c =
    let cube = c.args.cube in
    let m : length cube.cp ≡ 8 = search rules in
    let n : length cube.co ≡ 8 = search rules in
    let p : length cube.ep ≡ 12 = search rules in
    let q : length cube.eo ≡ 12 = search rules in
    let co = c.co_to_index.ensures in
    let eo = c.eo_to_index.ensures in
    let e = c.e_combo_to_index.ensures in
    let is : record { a = c.co_to_index.result.0; b = c.eo_to_index.result.0; c = c.e_combo_to_index.result.0 } ≡ coords1 cube = λ i. record { a = co i; b = eo i; c = e i } in
    (is, (refl, subst (Below phase1) (sym is) (coords-below cube (in-range cube c.requires.0 m n p q) c.requires.1)))
