-- Facts that only the search of phase 1 needs: a turn refused or made, and what is left in the two paths. Assumes nothing.
use Prim.Native.Nat.{ℕ}
use mathlib.Core.Path.{◌≡◌, refl, sym, subst, ◌∙◌}
use mathlib.Core.Bool.{Bool, true, false}
use mathlib.Core.List.{List}
use lib.ListN.{take}
use Rattle.base.specs.Search.{Res, done, Rules, walk_over}
use Rattle.phase2_steps.specs.Rules.{phase1, Coords, At, at, Below, below_of, Ans, solved, nothing, spent, refused}
use Rattle.phase2_steps.proofs.Facts.{below-is}
use Rattle.phase1_steps.specs.First.{of1, turned1, Leaves1, Gives1}
use Rattle.phase1_steps.specs.declared.Phase1State.{Phase1State}
use Rattle.std.proofs.Common.{Some, None}

-- ---- a turn that was refused, and one that was not

pub was-refused1 : (b : Bool) (y : Coords) (m : ℕ) → None ≡ turned1 b y m → b ≡ false
unfolding turned1
was-refused1 true y m e = cc
was-refused1 false y m e = refl

pub was-made1 : (b : Bool) (y : Coords) (m : ℕ) (z : Phase1State) → Some z ≡ turned1 b y m → (b ≡ true) × (of1 z ≡ y) × (z.last ≡ m)
unfolding turned1
was-made1 true y m z e = (refl, cc, cc)
was-made1 false y m z e = (cc, cc, cc)

pub made-below1 : (y : Coords) (m : ℕ) (z : Phase1State) → Some z ≡ turned1 (below_of phase1 y) y m → Below phase1 (of1 z)
made-below1 y m z e = subst (Below phase1) (sym (was-made1 _ y m z e).1) (below-is phase1 y (was-made1 _ y m z e).0)

-- ---- what phase 1 leaves in the two paths

-- once ended, what the paths held before does not matter
pub over1 : {q q' : Res (Ans (List ℕ × List ℕ)) ℕ} {a : Ans (List ℕ × List ℕ)} {s : ℕ} (k k' : ℕ) (p₁ p₂ p₁' p₂' o₁ o₂ : List ℕ)
    → q ≡ done a s → q' ≡ done a s → k ≡ k' → Leaves1 q k p₁ p₂ o₁ o₂ → Leaves1 q' k' p₁' p₂' o₁ o₂
unfolding Leaves1
over1 {q} {q'} {a} {s} k k' p₁ p₂ p₁' p₂' o₁ o₂ e e' n h =
    subst (λ (z : Res (Ans (List ℕ × List ℕ)) ℕ). Leaves1 z k' p₁' p₂' o₁ o₂) (sym e') (at a (subst (λ (z : Res (Ans (List ℕ × List ℕ)) ℕ). Leaves1 z k p₁ p₂ o₁ o₂) e h))
  where
    at : (a : Ans (List ℕ × List ℕ)) → Leaves1 (done a s) k p₁ p₂ o₁ o₂ → Leaves1 (done a s) k' p₁' p₂' o₁ o₂
    at (solved l) h = (h.0 ∙ n, h.1)
    at nothing h = h
    at spent h = h
    at refused h = h

-- what a walk gives, over paths that are the same
pub again1 : (r : Rules (Ans (List ℕ × List ℕ)) ℕ ℕ At) (d : ℕ) (c : Coords) (last n : ℕ) (ms : List ℕ) (s : ℕ) {k word : ℕ} {p p' q q' o₁ o₂ : List ℕ} → p' ≡ p → q' ≡ q
    → Gives1 (walk_over r d (at c last (take n p')) ms s) k word p' q' o₁ o₂ → Gives1 (walk_over r d (at c last (take n p)) ms s) k word p q o₁ o₂
again1 r d c last n ms s {k} {word} {p} {p'} {q} {q'} {o₁} {o₂} e f g =
    subst (λ (z : List ℕ). Gives1 (walk_over r d (at c last (take n z)) ms s) k word z q o₁ o₂) e
    (subst (λ (z : List ℕ). Gives1 (walk_over r d (at c last (take n p')) ms s) k word p' z o₁ o₂) f g)
