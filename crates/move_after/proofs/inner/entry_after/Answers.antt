-- `move_after::inner::entry_after` meets its contract: in each arm the cube is that of move m, and the arrangement is in its coordinate's domain. Assumes nothing.
use Rattle.std.proofs.Common.{◌∙◌, arith}
use Rattle.move_row.proofs.After.{cube-at, co-fits, eo-fits, corners-fit, edges_fit, co-after, eo-after, combo-after, cp-after, ud-after, e-after}
use Rattle.move_after.proofs.inner.entry_after.Goals as goal

pub twist_row-requires : goal.twist_row-requires
twist_row-requires c =
    (omega arith, co-fits (cube-at c.args.cubes.now c.requires.1 _ (omega arith) _) (omega arith) c.args.a.now (rw c.in-Co.is at c.requires.0))

pub co_to_index-requires : goal.co_to_index-requires
co_to_index-requires c = (co-after (cube-at c.args.cubes.now c.requires.1 _ (omega arith) _) (omega arith) c.args.a.now c.twist_row.ensures).0

pub returns-in-Co : goal.returns-in-Co
returns-in-Co c =
    rw c.in-Co.is (c.co_to_index.ensures ∙ (co-after (cube-at c.args.cubes.now c.requires.1 c.args.m c.requires.2 _) c.requires.2 c.args.a.now c.twist_row.ensures).1)

pub twist_row-requires-in-Eo : goal.twist_row-requires-in-Eo
twist_row-requires-in-Eo c =
    let e = cube-at c.args.cubes.now c.requires.1 c.args.m c.requires.2 _ in
    (omega arith, eo-fits e c.requires.2 c.args.a.now (rw c.in-Eo.is at c.requires.0))

pub eo_to_index-requires : goal.eo_to_index-requires
eo_to_index-requires c = (eo-after (cube-at c.args.cubes.now c.requires.1 c.args.m c.requires.2 _) c.requires.2 c.args.a.now c.twist_row-in-Eo.ensures).0

pub returns-in-Eo : goal.returns-in-Eo
returns-in-Eo c =
    rw c.in-Eo.is (c.eo_to_index.ensures ∙ (eo-after (cube-at c.args.cubes.now c.requires.1 c.args.m c.requires.2 _) c.requires.2 c.args.a.now c.twist_row-in-Eo.ensures).1)

pub permute_row-requires : goal.permute_row-requires
permute_row-requires c =
    (omega arith, edges_fit (cube-at c.args.cubes.now c.requires.1 c.args.m c.requires.2 _) c.requires.2 c.args.a.now (rw c.in-ECombo.is at c.requires.0).places)

pub e_combo_to_index-requires : goal.e_combo_to_index-requires
e_combo_to_index-requires c =
    let e = cube-at c.args.cubes.now c.requires.1 c.args.m c.requires.2 _ in
    (combo-after e c.requires.2 c.args.a.now (rw c.in-ECombo.is at c.requires.0) c.permute_row.ensures).0

pub returns-in-ECombo : goal.returns-in-ECombo
returns-in-ECombo c =
    let e = cube-at c.args.cubes.now c.requires.1 c.args.m c.requires.2 _ in
    let d = rw c.in-ECombo.is at c.requires.0 in
    rw c.in-ECombo.is (c.e_combo_to_index.ensures ∙ (combo-after e c.requires.2 c.args.a.now d c.permute_row.ensures).1)

pub permute_row-requires-in-Cp : goal.permute_row-requires-in-Cp
permute_row-requires-in-Cp c =
    (omega arith, corners-fit (cube-at c.args.cubes.now c.requires.1 c.args.m c.requires.2 _) c.requires.2 c.args.a.now (rw c.in-Cp.is at c.requires.0).places)

pub returns-in-Cp : goal.returns-in-Cp
returns-in-Cp c =
    rw c.in-Cp.is (c.cp_to_index.ensures ∙ cp-after (cube-at c.args.cubes.now c.requires.1 c.args.m c.requires.2 _) c.requires.2 c.args.a.now c.permute_row-in-Cp.ensures)

pub permute_row-requires-in-UdEp : goal.permute_row-requires-in-UdEp
permute_row-requires-in-UdEp c =
    (omega arith, edges_fit (cube-at c.args.cubes.now c.requires.1 c.args.m c.requires.2 _) c.requires.2 c.args.a.now (rw c.in-UdEp.is at c.requires.0).places)

pub returns-in-UdEp : goal.returns-in-UdEp
returns-in-UdEp c =
    rw c.in-UdEp.is (c.ud_ep_to_index.ensures ∙ ud-after (cube-at c.args.cubes.now c.requires.1 c.args.m c.requires.2 _) c.requires.2 c.args.a.now c.permute_row-in-UdEp.ensures)

pub permute_row-requires-in-EEp : goal.permute_row-requires-in-EEp
permute_row-requires-in-EEp c =
    (omega arith, edges_fit (cube-at c.args.cubes.now c.requires.1 c.args.m c.requires.2 _) c.requires.2 c.args.a.now (rw c.in-EEp.is at c.requires.0).places)

pub returns-in-EEp : goal.returns-in-EEp
returns-in-EEp c =
    rw c.in-EEp.is (c.e_ep_to_index.ensures ∙ e-after (cube-at c.args.cubes.now c.requires.1 c.args.m c.requires.2 _) c.requires.2 c.args.a.now c.permute_row-in-EEp.ensures)
