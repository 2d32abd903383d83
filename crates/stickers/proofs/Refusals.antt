-- What a refusal of the readers tells. Assumes nothing.
use mathlib.Core.Bool.{Bool, true, false}
use mathlib.Core.List.{List}
use Prim.Native.Nat.{ℕ, ◌≤◌}
use native.Mathlib.Omega.{arith}
use lib.Dec.{eqb}
use lib.ListN.{length}
use Rattle.base.specs.Lists.{pick, same_list}
use Rattle.cubie.specs.Solvable.{solvable}
use Rattle.stickers.specs.Picture.{picture}
use Rattle.stickers.specs.Reader.{all_colors, cube_read, plain_refusal, strict_refusal}

-- the numbers of the strict reader's refusals
pub strict-le : (s : List ℕ) → strict_refusal s ≤ 15
unfolding strict_refusal plain_refusal
strict-le s = go (eqb (length s) 54) (all_colors s) (solvable (cube_read s)) (same_list (picture (cube_read s)) s)
  where
    go : (a b c d : Bool) → pick (eqb (pick a (pick b (pick c 0 3) 2) 1) 0) (pick d 0 15) (pick a (pick b (pick c 0 3) 2) 1) ≤ 15
    go false b c d = omega arith
    go true false c d = omega arith
    go true true false d = omega arith
    go true true true false = omega arith
    go true true true true = omega arith
