-- Facts about phase 1's definitions: entries of the blocks, what is left in the two paths, and that no search gains budget. Assumes nothing.
use Prim.Native.Nat.{ℕ, ◌+◌, ◌-◌, ◌*◌, ◌<◌, ◌≤◌, max}
use mathlib.Core.Path.{◌≡◌, refl, sym, ap, ap₂, subst, ◌∙◌}
use mathlib.Core.Bool.{Bool, true}
use mathlib.Core.List.{List}
use native.Mathlib.Nat.{zero-add, le_refl}
use native.Mathlib.Omega.{arith}
use lib.Dec.{ltb}
use lib.ListN.{length, get_or}
use borrow.Author.Tests.{eq-eqb}
use Rattle.base.specs.Lists.{pick}
use Rattle.base.specs.Perm.{below}
use Rattle.base.specs.Search.{Res, still, done, deepen, enter, left_of}
use Rattle.base.proofs.Budget.{enter-spends, branch-spends, deepen-spends}
use Rattle.base.proofs.Tests.{under-in_range}
use Rattle.cubie.specs.Cube.{InRange, apply_moves}
use Rattle.cubie.specs.Solvable.{solvable}
use Rattle.cubie.specs.declared.CubieCube.{CubieCube}
use Rattle.numbering.proofs.Numbers.{co-numbered, eo-numbered, e-combo-numbered}
use Rattle.numbering.proofs.Phases.{four_low}
use Rattle.phase2_steps.specs.Rules.{phase1, Turns, Fars, Coords, At, Below, cut_of, go_of, Ans, solved, nothing, spent, refused, rules}
use Rattle.phase2_steps.specs.Paths.{word_of}
use Rattle.phase2_steps.specs.Second.{coords2, run2}
use Rattle.phase2_steps.proofs.Facts.{cut-is, go-is}
use Rattle.phase2_steps.proofs.Steps.{pay-spends, enter2-spends}
use Rattle.phase1_steps.specs.First.{turns1, fars1, coords1, under, finish1, rules1, Leaves1, Gives1}

-- ---- the coordinates of a solvable cube are below their counts

pub coords-below : (c : CubieCube) → InRange c → solvable c ≡ true → Below phase1 (coords1 c)
coords-below c r s =
    record {
      a = co-numbered.small c.co r.co.size (ap (λ (b : Bool). pick b 0 6) (under-in_range 3 c.co r.co.small));
      b = eo-numbered.small c.eo r.eo.size (ap (λ (b : Bool). pick b 0 6) (under-in_range 2 c.eo r.eo.small));
      c = e-combo-numbered.small c.ep r.ep.size
          (ap₂ (λ (b d : Bool). pick b (pick d 0 6) 5) (under-in_range 12 c.ep r.ep.small) (eq-eqb (below 4 c.ep) 4 (four_low c r s)));
    }

-- ---- the cut, and the position after a move, by the entries of the blocks

pub cut1-is : (p : List ℕ) (x : Coords) (d : ℕ) → Below phase1 x → cut_of phase1 (fars1 p) x d ≡ ltb d (max (get_or p (x.a * 495 + x.c) 0) (get_or p (1082565 + (x.b * 495 + x.c)) 0))
unfolding fars1
cut1-is p x d h = cut-is phase1 6 7 p x d _ _ (omega (arith, h.a, h.c)) (omega (arith, h.b, h.c)) (sym (zero-add _)) refl

pub go1-is : (m : List ℕ) (x : Coords) (j : ℕ) → Below phase1 x → j < 18
    → go_of phase1 (turns1 m) x j ≡ record { a = get_or m (x.a * 18 + j) 0; b = get_or m (39366 + (x.b * 18 + j)) 0; c = get_or m (76230 + (x.c * 18 + j)) 0 }
unfolding turns1
go1-is m x j h l = go-is phase1 0 1 2 m x j _ _ _ (omega (arith, h.a)) (omega (arith, h.b)) (omega (arith, h.c)) (sym (zero-add _)) refl refl

-- ---- what phase 1 leaves in the two paths

-- while open, they are as they were
pub open1 : {q : Res (Ans (List ℕ × List ℕ)) ℕ} {s : ℕ} (k : ℕ) {p₁ p₂ o₁ o₂ : List ℕ} → q ≡ still s → Leaves1 q k p₁ p₂ o₁ o₂ → (o₁ ≡ p₁) × (o₂ ≡ p₂)
unfolding Leaves1
open1 {q} {s} k {p₁} {p₂} {o₁} {o₂} e h = subst (λ (z : Res (Ans (List ℕ × List ℕ)) ℕ). Leaves1 z k p₁ p₂ o₁ o₂) e h

-- what a function gives, by what the search it stands for comes to
pub gives1 : {s q : Res (Ans (List ℕ × List ℕ)) ℕ} {k r : ℕ} {p₁ p₂ o₁ o₂ : List ℕ} → s ≡ q → r ≡ word_of (λ l. l.1) q → Leaves1 q k p₁ p₂ o₁ o₂ → Gives1 s k r p₁ p₂ o₁ o₂
gives1 {s} {q} {k} {r} {p₁} {p₂} {o₁} {o₂} e w l =
    record { word = w ∙ ap (word_of (λ l. l.1)) (sym e); paths = subst (λ (z : Res (Ans (List ℕ × List ℕ)) ℕ). Leaves1 z k p₁ p₂ o₁ o₂) (sym e) l }

-- the same, of a search that comes to another
pub via1 : {s q : Res (Ans (List ℕ × List ℕ)) ℕ} {k k' r : ℕ} {p₁ p₂ o₁ o₂ : List ℕ} → s ≡ q → k ≡ k' → Gives1 q k' r p₁ p₂ o₁ o₂ → Gives1 s k r p₁ p₂ o₁ o₂
via1 {s} {q} {k} {k'} {r} {p₁} {p₂} {o₁} {o₂} e n g =
    subst (λ (z : Res (Ans (List ℕ × List ℕ)) ℕ). Gives1 z k r p₁ p₂ o₁ o₂) (sym e) (subst (λ (z : ℕ). Gives1 q z r p₁ p₂ o₁ o₂) (sym n) g)

-- ---- no search gains budget

under_left : {L K : Type 0} (g : L → K) (q : Res (Ans L) ℕ) → left_of (under g q) ≡ left_of q
unfolding under left_of
under_left g (still s) = refl
under_left g (done (solved l) s) = refl
under_left g (done nothing s) = refl
under_left g (done spent s) = refl
under_left g (done refused s) = refl

finish1-spends : (t : Turns) (f : Fars) (cube : CubieCube) (limit last : ℕ) (list : List ℕ) (s : ℕ) → left_of (finish1 t f cube limit last list s) ≤ s
unfolding finish1
finish1-spends t f cube limit last list s =
    branch-spends _ (done nothing) (λ s. under (λ l. (list, l)) (deepen (run2 t f (coords2 (apply_moves cube list)) last) 0 (limit - length list) s)) s (unfold left_of in le_refl s)
    (subst (λ (k : ℕ). k ≤ s) (sym (under_left (λ l. (list, l)) (deepen (run2 t f (coords2 (apply_moves cube list)) last) 0 (limit - length list) s)))
    (deepen-spends (run2 t f (coords2 (apply_moves cube list)) last) (λ d s. enter2-spends t f d _ s) 0 (limit - length list) s))

pub enter1-spends : (t : Turns) (f : Fars) (t2 : Turns) (f2 : Fars) (cube : CubieCube) (limit d : ℕ) (x : At) (s : ℕ) → left_of (enter (rules1 t f t2 f2 cube limit) d x s) ≤ s
unfolding rules
enter1-spends t f t2 f2 cube limit = enter-spends (rules1 t f t2 f2 cube limit) (pay-spends _) (λ x s. finish1-spends t2 f2 cube limit x.last x.list s)
