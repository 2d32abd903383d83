-- The strict reader's refusal, by its three ways. Assumes nothing.
use mathlib.Core.Path.{◌≡◌}
use mathlib.Core.Bool.{true, false}
use mathlib.Core.List.{List}
use Prim.Native.Nat.{ℕ}
use borrow.Author.Tests.{eq-eqb, ne_eqb}
use Rattle.base.specs.Lists.{same_list}
use Rattle.stickers.specs.Picture.{picture}
use Rattle.stickers.specs.Reader.{cube_read, plain_refusal, strict_refusal}

module _ (s : List ℕ) where
  pub strict-refused : (plain_refusal s ≡ 0 → ⊥) → strict_refusal s ≡ plain_refusal s
  unfolding strict_refusal
  strict-refused h = rw (ne_eqb (plain_refusal s) 0 h)

  pub strict_same : plain_refusal s ≡ 0 → same_list (picture (cube_read s)) s ≡ true → strict_refusal s ≡ 0
  unfolding strict_refusal
  strict_same z e = rw (eq-eqb (plain_refusal s) 0 z, e)

  pub strict-differs : plain_refusal s ≡ 0 → same_list (picture (cube_read s)) s ≡ false → strict_refusal s ≡ 15
  unfolding strict_refusal
  strict-differs z e = rw (eq-eqb (plain_refusal s) 0 z, e)
