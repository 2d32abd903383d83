-- The first line of a text and what comes after it. Assumes nothing.
use mathlib.Core.Path.{◌≡◌, refl, sym, ap, ◌∙◌}
use mathlib.Core.Bool.{Bool}
use mathlib.Core.List.{List, [], ◌∷◌}
use Prim.Native.Nat.{ℕ, suc, ◌+◌, ◌-◌}
use native.Mathlib.Omega.{arith}
use lib.ListN.{length, take, drop, length-drop}
use lib.Seq.{slice, take_all, take-length, drop-length, drop-drop}
use borrow.Author.Tests.{eq-eqb, ne_eqb}
use Rattle.base.specs.Lists.{pick}
use Rattle.lines.specs.Lines.{index_of}

-- where no LF is left, nothing stands behind it
pub drop-end : (s : List ℕ) (n : ℕ) → n ≡ length s → drop n s ≡ drop (n + 1) s
drop-end s n e =
    let none : drop n s ≡ [] = ap (λ (k : ℕ). drop k s) e ∙ drop-length s in
    none ∙ sym (sym (drop-drop 1 n s) ∙ ap (drop 1) none)

-- the first LF of all that was read
pub found : (s : List ℕ) → 0 + index_of 10 (slice 0 (length s) s) ≡ index_of 10 s
found s = let e : index_of 10 (slice 0 (length s) s) ≡ index_of 10 s = ap (index_of 10) (take-length s) in omega (arith, e)

-- a part that goes to the end
pub to_the_end : (s : List ℕ) (n : ℕ) → take (length s - n) (drop n s) ≡ drop n s
to_the_end s n = take_all (length s - n) (drop n s) (omega (arith, length-drop n s))

-- ---- the place of the first byte b, by its first element

module _ (b x : ℕ) (s : List ℕ) where
  pub found-here : x ≡ b → index_of b (x ∷ s) ≡ 0
  unfolding index_of
  found-here e = ap (λ (t : Bool). pick t 0 (suc (index_of b s))) (eq-eqb x b e)

  pub found-later : (x ≡ b → ⊥) → index_of b (x ∷ s) ≡ index_of b s + 1
  unfolding index_of
  found-later n = ap (λ (t : Bool). pick t 0 (suc (index_of b s))) (ne_eqb x b n) ∙ omega arith

pub found-nowhere : (b : ℕ) → index_of b [] ≡ 0
unfolding index_of
found-nowhere b = refl
