-- `move_row::inner::move_cubes` meets its contract: each cube is its move's. Assumes nothing.
use Rattle.std.proofs.Common.{◌≡◌, ◌<◌, get_or, sym, ◌∙◌, arith, rules}
use Rattle.std.proofs.lemmas.List.{ext_get_or}
use Rattle.std.proofs.lemmas.List.FromFn.{length-map-range_with_len, get_or-map-range_with_len}
use Rattle.cubie.specs.Cube.{move_of, solved_cube}
use Rattle.move_row.specs.Tables.{move_cubes}
use Rattle.move_row.proofs.inner.move_cubes.Goals as goal

pub returns : goal.returns
unfolding move_cubes
returns c =
    let f = c.from_fn.ensures.items in
    ext_get_or solved_cube c.from_fn.result move_cubes (f.long ∙ sym (length-map-range_with_len move_of 0 18))
    (λ i h.
    let h' : i < 18 = omega (arith, f.long) in
    let w = f.at i solved_cube h' in
    let e : get_or c.from_fn.result i solved_cube ≡ move_of i = search rules in
    e ∙ sym (get_or-map-range_with_len move_of 0 18 i i solved_cube h' (omega arith)))
