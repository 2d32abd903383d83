-- The readers' laws: the picture of every solvable cube is read back as that cube by both readers, and the strict reader accepts a string
-- exactly when it is the picture of a solvable cube. Assumes nothing.
use mathlib.Core.Path.{◌≡◌, refl, sym, ap, ◌∙◌}
use mathlib.Core.Bool.{Bool, true, false}
use mathlib.Core.Logic.{◌↔◌}
use mathlib.Core.List.{List}
use Prim.Native.Nat.{ℕ, zero}
use native.Mathlib.Omega.{arith}
use lib.Dec.{eqb}
use lib.ListN.{length}
use borrow.Author.Tests.{eq-eqb, eqb-true, eqb-false}
use Rattle.base.specs.Lists.{pick, same_list}
use Rattle.base.proofs.Tests.{same_list-is, same_list-self}
use Rattle.cubie.specs.Cube.{InRange}
use Rattle.cubie.specs.Solvable.{solvable}
use Rattle.cubie.specs.declared.CubieCube.{CubieCube}
use Rattle.std.proofs.Common.{Result, Ok}
use Rattle.refusal.specs.declared.Refusal.{Refusal}
use Rattle.refusal.proofs.Laws.{passes, given}
use Rattle.stickers.specs.Picture.{picture}
use Rattle.stickers.specs.Reader.{all_colors, cube_read, plain_refusal, strict_refusal, read_plain, read_strict}
use Rattle.stickers.proofs.Back.{picture-length, read_back}
use Rattle.stickers.proofs.Letters.{picture-colors}
use Rattle.stickers.proofs.Ranges.{read-range}
use Rattle.stickers.proofs.Strict.{strict_same}

-- the answer that is no refusal
abbrev pub accepted : CubieCube → Result CubieCube Refusal
accepted c = Ok c

module _ (c : CubieCube) (r : InRange c) (e : solvable c ≡ true) where
  plain-none : plain_refusal (picture c) ≡ 0
  unfolding plain_refusal
  plain-none = rw (eq-eqb (length (picture c)) 54 (picture-length c), picture-colors c r, read_back c r, e)

  strict_none : strict_refusal (picture c) ≡ 0
  strict_none = strict_same (picture c) plain-none (ap (λ (d : CubieCube). same_list (picture d) (picture c)) (read_back c r) ∙ same_list-self (picture c))

  -- "The picture of every solvable cube is read back as that cube by both readers"
  pub plain-reads : read_plain (picture c) ≡ accepted c
  plain-reads = passes (plain_refusal (picture c)) (cube_read (picture c)) plain-none ∙ ap Ok (read_back c r)

  pub strict-reads : read_strict (picture c) ≡ accepted c
  strict-reads = passes (strict_refusal (picture c)) (cube_read (picture c)) strict_none ∙ ap Ok (read_back c r)

-- what is accepted is the picture of the solvable cube that is given
plain-taken : (s : List ℕ) → plain_refusal s ≡ 0 → solvable (cube_read s) ≡ true
unfolding plain_refusal
plain-taken s h = go (eqb (length s) 54) (all_colors s) (solvable (cube_read s)) refl h
  where
    go : (p q t : Bool) → solvable (cube_read s) ≡ t → pick p (pick q (pick t 0 3) 2) 1 ≡ zero → solvable (cube_read s) ≡ true
    go true true true a e = a
    go true true false a e = absurd (omega arith)
    go true false t a e = absurd (omega arith)
    go false q t a e = absurd (omega arith)

pub strict-taken : (s : List ℕ) → strict_refusal s ≡ 0 → (s ≡ picture (cube_read s)) × (solvable (cube_read s) ≡ true)
unfolding strict_refusal
strict-taken s h = go (eqb (plain_refusal s) 0) (same_list (picture (cube_read s)) s) refl refl h
  where
    go : (p q : Bool) → eqb (plain_refusal s) 0 ≡ p → same_list (picture (cube_read s)) s ≡ q → pick p (pick q 0 15) (plain_refusal s) ≡ zero → (s ≡ picture (cube_read s)) × (solvable (cube_read s) ≡ true)
    go true true a b e = (sym (same_list-is (picture (cube_read s)) s b), plain-taken s (eqb-true (plain_refusal s) 0 a))
    go true false a b e = absurd (omega arith)
    go false q a b e = absurd (eqb-false (plain_refusal s) 0 a e)

-- a solvable cube whose picture s is
pub record Pictured (s : List ℕ) (c : CubieCube) : Type 0 where
  pub range : InRange c
  pub solvable : Rattle.cubie.specs.Solvable.solvable c ≡ true
  pub same : s ≡ picture c

-- "The strict reader accepts a string exactly when it is, in all 54 bytes, the picture of a solvable cube, and gives that cube"
pub strict-exactly : (s : List ℕ) (c : CubieCube) → (read_strict s ≡ accepted c) ↔ Pictured s c
strict-exactly s c = (there, λ p. rw p.same (strict-reads c p.range p.solvable))
  where
    there : read_strict s ≡ accepted c → Pictured s c
    there e =
        let g = given (strict_refusal s) (cube_read s) c e in
        let t = strict-taken s g.0 in
        rw (← g.1) (record { range = read-range s; solvable = t.1; same = t.0 })

-- "pictures of different solvable cubes differ"
pub pictures-differ : (c d : CubieCube) → InRange c → InRange d → picture c ≡ picture d → c ≡ d
pictures-differ c d r s e = sym (read_back c r) ∙ ap cube_read e ∙ read_back d s
