-- `search::inner::bytes_of` meets its contract: the cube of the 40 bytes of a cube is that cube. Assumes nothing.
use Prim.Native.Nat.{ℕ}
use mathlib.Core.Path.{◌≡◌, ap, ◌∙◌}
use mathlib.Core.List.{List}
use lib.ListN.{length}
use Rattle.cubie.specs.Cube.{cube_of}
use Rattle.search.proofs.Cubes.{cube-of-bytes}
use borrow.Author.Rules.{rules}
use Rattle.search.proofs.inner.bytes_of.Goals as goal

pub returns : goal.returns
returns c =
    let cube = c.args.cube in
    let k : length cube.cp ≡ 8 = search rules in
    let m : length cube.co ≡ 8 = search rules in
    let n : length cube.ep ≡ 12 = search rules in
    let p : length cube.eo ≡ 12 = search rules in
    ap (λ (l : List ℕ). cube_of l) c.put_cube.ensures ∙ cube-of-bytes cube k m n p
