-- `cubie::inner::move_state` meets its contract. Assumes nothing.
use mathlib.Core.Path.{◌≡◌, sym, ap, ap₂, ◌∙◌}
use Prim.Native.Nat.{ℕ, ◌/◌, ◌%◌}
use native.Mathlib.Omega.{arith}
use lib.ListN.{get_or}
use Rattle.cubie.specs.Cube.{refusal_of, product, solved_cube, quarter_turns, power, move_of}
use Rattle.cubie.proofs.Product.{product-range}
use Rattle.cubie.proofs.Range.{no-refusal}
use Rattle.cubie.proofs.Turns.{quarter-range}
use Rattle.cubie.proofs.inner.move_state.Goals as goal

pub returns-in-0 : goal.returns-in-0
unfolding move_of power
returns-in-0 c = c.quarter_turn-once.ensures ∙ ap (λ (n : ℕ). power n (get_or quarter_turns (c.args.m / 3) solved_cube)) (sym c.in-0.is)

pub mul-requires : goal.mul-requires
mul-requires c =
    let q = c.quarter_turn-once in
    let r = no-refusal (quarter-range (c.args.m / 3) (omega arith)) in
    rw q.ensures (r, r)

pub returns-in-1 : goal.returns-in-1
unfolding move_of power
returns-in-1 c =
    let once = c.quarter_turn-once.ensures in
    c.mul.ensures ∙ ap₂ product once once ∙ ap (λ (n : ℕ). power n (get_or quarter_turns (c.args.m / 3) solved_cube)) (sym c.in-1.is)

pub mul-requires-in_default : goal.mul-requires-in_default
mul-requires-in_default c =
    let q = c.quarter_turn-once in
    let r = no-refusal (quarter-range (c.args.m / 3) (omega arith)) in
    rw q.ensures (r, r)

pub mul-requires-in_default-2 : goal.mul-requires-in_default-2
mul-requires-in_default-2 c =
    let once = c.quarter_turn-once.ensures in
    let r = quarter-range (c.args.m / 3) (omega arith) in
    (ap refusal_of (c.mul-in_default.ensures ∙ ap₂ product once once) ∙ no-refusal (product-range r r), ap refusal_of once ∙ no-refusal r)

pub returns-in_default : goal.returns-in_default
unfolding move_of power
returns-in_default c =
    let once = c.quarter_turn-once.ensures in
    let two : c.args.m % 3 ≡ 2 = omega arith in
    c.mul-in_default-2.ensures ∙ ap₂ product (c.mul-in_default.ensures ∙ ap₂ product once once) once
    ∙ ap (λ (n : ℕ). power n (get_or quarter_turns (c.args.m / 3) solved_cube)) (sym two)
