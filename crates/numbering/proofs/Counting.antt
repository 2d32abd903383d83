-- The library's count of the elements that pass a test, where the test is to be below a number. Assumes nothing.
use mathlib.Core.Path.{◌≡◌, refl, sym}
use mathlib.Core.Bool.{Bool, true, false, cond}
use mathlib.Core.List.{List}
use Prim.Native.Nat.{ℕ, ◌+◌}
use native.Mathlib.Nat.{zero-add}
use lib.Dec.{ltb}
use Rattle.std.specs.List.{count_by}
use Rattle.std.proofs.lemmas.List.Recursion.{is_count_by}
use Rattle.base.specs.Lists.{bit}
use Rattle.base.specs.Perm.{less, below}

one-more : (b : Bool) (n : ℕ) → bit b + n ≡ cond b (1 + n) n
one-more true n = refl
one-more false n = zero-add n

pub count-below : (a : ℕ) (xs : List ℕ) → count_by (λ x. ltb x a) xs ≡ below a xs
unfolding less
count-below a xs = sym (is_count_by (below a) (λ x. ltb x a) refl (λ x ys. one-more (ltb x a) (below a ys)) xs)
