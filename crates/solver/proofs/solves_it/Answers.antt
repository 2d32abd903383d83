-- `solver::solves_it` meets its contract: the two lists, one after the other, are the moves of both. Assumes nothing.
use mathlib.Core.Path.{◌≡◌, sym, ap, subst, ◌∙◌}
use lib.ListN.{length}
use Rattle.cubie.specs.Cube.{refusal_of, apply_moves, is_home}
use Rattle.cubie.specs.declared.CubieCube.{CubieCube}
use Rattle.cubie.proofs.Range.{in-range, no-refusal}
use Rattle.cubie.proofs.Turns.{moves-range}
use Rattle.search.proofs.Cubes.{moves-append}
use borrow.Author.Rules.{rules}
use Rattle.solver.proofs.solves_it.Goals as goal

pub apply_moves-requires-2 : goal.apply_moves-requires-2
apply_moves-requires-2 c =
    let s = c.requires in
    let cube = c.args.cube in
    let k : length cube.cp ≡ 8 = search rules in
    let m : length cube.co ≡ 8 = search rules in
    let n : length cube.ep ≡ 12 = search rules in
    let p : length cube.eo ≡ 12 = search rules in
    (subst (λ (q : CubieCube). refusal_of q ≡ 0) (sym c.apply_moves.ensures) (no-refusal (moves-range (in-range cube s.0 k m n p) _ s.1)), s.2)

pub returns : goal.returns
returns c =
    let a = c.args in
    c.is_solved.ensures
    ∙ ap (λ (q : CubieCube). is_home q) (c.apply_moves-2.ensures ∙ ap (λ (q : CubieCube). apply_moves q a.two.now) c.apply_moves.ensures ∙ sym (moves-append a.cube a.one.now a.two.now))
