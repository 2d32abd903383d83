-- An end of phase 1: how the answers of phase 2 become those of the whole search. Assumes nothing.
use Prim.Native.Nat.{ℕ, ◌-◌, ◌≤◌}
use mathlib.Core.Path.{◌≡◌, refl, sym, ap, subst, ◌∙◌}
use mathlib.Core.Bool.{Bool, true, false}
use mathlib.Core.List.{List}
use native.Mathlib.Nat.{sub-zero}
use lib.ListN.{length, take}
use Rattle.base.specs.Search.{Res, done, branch, deepen, deepen_from}
use Rattle.cubie.specs.Cube.{apply_moves}
use Rattle.cubie.specs.declared.CubieCube.{CubieCube}
use Rattle.phase2_steps.specs.Rules.{Turns, Fars, Coords, Ans, solved, nothing, spent, refused}
use Rattle.phase2_steps.specs.Paths.{Holds, word_of}
use Rattle.phase2_steps.specs.Second.{coords2, run2, Leaves2}
use Rattle.phase2_steps.proofs.Path.{held-length, held-stored}
use Rattle.phase1_steps.specs.First.{under, full_of, finish1, Leaves1}

module _ (t : Turns) (f : Fars) (cube : CubieCube) (limit last : ℕ) {path : List ℕ} {n : ℕ} (hold : Holds path n) (le : n ≤ 31) (s : ℕ) where
  finish-by : (b : Bool) → full_of limit n ≡ b
      → finish1 t f cube limit last (take n path) s
      ≡ branch b (done nothing) (λ s. under (λ l. (take n path, l)) (deepen (run2 t f (coords2 (apply_moves cube (take n path))) last) 0 (limit - n) s)) s
  unfolding finish1
  finish-by b e =
      λ i. branch (full i) (done nothing) (λ s. under (λ l. (take n path, l)) (deepen (run2 t f (coords2 (apply_moves cube (take n path))) last) 0 (limit - held-length hold le i) s)) s
    where
      full : full_of limit (length (take n path)) ≡ b
      full = ap (full_of limit) (held-length hold le) ∙ e

  pub finish-full : full_of limit n ≡ true → finish1 t f cube limit last (take n path) s ≡ done nothing s
  unfolding branch
  finish-full e = finish-by true e

  pub finish-runs : {c : Coords} {k : ℕ} → c ≡ coords2 (apply_moves cube (take n path)) → k ≡ last → full_of limit n ≡ false
      → finish1 t f cube limit last (take n path) s ≡ under (λ l. (take n path, l)) (deepen_from (run2 t f c k) (limit - n) 0 s)
  unfolding branch deepen_from
  finish-runs {c} {k} p q e =
      finish-by false e
      ∙ (λ i. under (λ l. (take n path, l)) (deepen (run2 t f (sym p i) (sym q i)) 0 (limit - n) s))
      ∙ ap (λ (k' : ℕ). under (λ l. (take n path, l)) (deepen (run2 t f c k) 0 k' s)) (sym (sub-zero (limit - n)))

-- phase 2 ended: the word is the same, and so are the lists
pub same_word : (l : List ℕ) (a : Ans (List ℕ)) (s : ℕ) → word_of (λ k. k) (done a s) ≡ word_of {L = List ℕ × List ℕ} (λ k. k.1) (under (λ k. (l, k)) (done a s))
unfolding word_of under
same_word l (solved k) s = refl
same_word l nothing s = refl
same_word l spent s = refl
same_word l refused s = refl

pub both_left : {one : List ℕ} {n : ℕ} {q : Res (Ans (List ℕ)) ℕ} (a : Ans (List ℕ)) (s : ℕ) (p two o : List ℕ) → Holds one n → n ≤ 31 → q ≡ done a s → Leaves2 q p o
    → Leaves1 (under (λ k. (take n one, k)) (done a s)) n one two one o
unfolding Leaves1 Leaves2 under
both_left {one} {n} {q} a s p two o hold le e h = at a (subst (λ (z : Res (Ans (List ℕ)) ℕ). Leaves2 z p o) e h)
  where
    at : (a : Ans (List ℕ)) → Leaves2 (done a s) p o → Leaves1 (under (λ k. (take n one, k)) (done a s)) n one two one o
    at (solved k) h = (held-length hold le, (held-stored hold, h))
    at nothing h = h
    at spent h = h
    at refused h = h
