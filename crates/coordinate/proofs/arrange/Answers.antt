-- `coordinate::arrange` meets its contract. Assumes nothing.
use Rattle.std.proofs.Common.{eqb, length, ◌∙◌}
use native.Mathlib.Omega.{arith}
use Rattle.numbering.specs.Coordinates.{e_combo_of}
use Rattle.coordinate.proofs.Sixteen.{left_narrow}
use Rattle.coordinate.proofs.arrange.Goals as goal

pub returns-in-2-clause-places_after : goal.returns-in-2-clause-places_after
returns-in-2-clause-places_after c =
    let a = c.args in
    c.leave-in-2.ensures.places_after
    ∙ rw (c.index_to_e_combo.ensures, c.narrow-in-2.ensures, c.in-2.is) (left_narrow 495 a.n e_combo_of a.places.now (omega arith) (eqb (length a.places.now) 12))
