-- The steps of a search as a program takes them: one law for each way that the code goes.
-- Assumes nothing.
use Prim.Native.Nat.{ℕ, zero, suc, ◌+◌, ◌-◌, ◌<◌, ◌≤◌}
use mathlib.Core.Path.{◌≡◌, refl, sym, ap, ◌∙◌}
use mathlib.Core.Bool.{Bool, true, false}
use mathlib.Core.List.{List, [], ◌∷◌}
use native.Mathlib.Omega.{arith}
use native.Mathlib.Numerals.{add-one, sub-one}
use Rattle.base.specs.Search.{Res, still, done, Next, refuse, to, Rules, and_then, branch, deepen, through, walk, enter, walk_over, deepen_from}
use Rattle.base.specs.Lists.{pick, Each}
use Rattle.base.specs.Sets.{keep}

-- one step of a walk over listed moves
module _ {A S X : Type 0} (r : Rules A S ℕ X) (d : ℕ) (x : X) where
  pub over-end : (ms : List ℕ) (s : S) → ms ≡ [] → walk_over r d x ms s ≡ still s
  unfolding walk_over walk
  over-end ms s e = ap (λ (l : List ℕ). walk r (enter r d) x l s) e

  module _ (j : ℕ) (l : List ℕ) (s : S) (v : r.avail x j ≡ true) where
    over-through : (y : Next A X) → r.next x j ≡ y → walk_over r d x (j ∷ l) s ≡ through y (enter r d) (walk_over r d x l) s
    unfolding walk_over walk branch
    over-through y e =
        ap (λ (b : Bool). branch b (through (r.next x j) (enter r d) (λ t. walk r (enter r d) x l t)) (λ t. walk r (enter r d) x l t) s) v
        ∙ ap (λ (z : Next A X). through z (enter r d) (λ t. walk r (enter r d) x l t) s) e

    pub over-refuse : {a : A} → r.next x j ≡ refuse a → walk_over r d x (j ∷ l) s ≡ done a s
    unfolding through
    over-refuse {a} e = over-through (refuse a) e

    pub over-open : {y : X} {t : S} → r.next x j ≡ to y → enter r d y s ≡ still t → walk_over r d x (j ∷ l) s ≡ walk_over r d x l t
    unfolding through and_then
    over-open {y} {t} e q = over-through (to y) e ∙ ap (λ (z : Res A S). and_then z (walk_over r d x l)) q

    pub over_done : {y : X} {a : A} {t : S} → r.next x j ≡ to y → enter r d y s ≡ done a t → walk_over r d x (j ∷ l) s ≡ done a t
    unfolding through and_then
    over_done {y} {a} {t} e q = over-through (to y) e ∙ ap (λ (z : Res A S). and_then z (walk_over r d x l)) q

-- The walk at x, which skips the moves that may not follow, is the walk over those that may, at a position x' that every move may follow and that has the
-- same positions after it.
module _ {A S X : Type 0} (r : Rules A S ℕ X) (f : X → S → Res A S) (x x' : X) (same : (j : ℕ) → r.next x j ≡ r.next x' j) where
  skip_step : (j : ℕ) (l : List ℕ) → r.avail x' j ≡ true → ((s : S) → walk r f x l s ≡ walk r f x' (keep (r.avail x) l) s) → (s : S) (b : Bool)
      → branch b (through (r.next x j) f (λ t. walk r f x l t)) (λ t. walk r f x l t) s ≡ walk r f x' (pick b (j ∷ keep (r.avail x) l) (keep (r.avail x) l)) s
  unfolding walk branch
  skip_step j l a ih s true =
      (λ i. through (same j i) f (λ t. ih t i) s)
      ∙ sym (λ i. branch (a i) (through (r.next x' j) f (λ t. walk r f x' (keep (r.avail x) l) t)) (λ t. walk r f x' (keep (r.avail x) l) t) s)
  skip_step j l a ih s false = ih s

  pub walk-keep : (l : List ℕ) → Each (λ j. r.avail x' j ≡ true) l → (s : S) → walk r f x l s ≡ walk r f x' (keep (r.avail x) l) s
  unfolding walk keep
  walk-keep [] a s = refl
  walk-keep (j ∷ l) a s = skip_step j l a.0 (walk-keep l a.1) s (r.avail x j)

module _ {A S : Type 0} (f : ℕ → S → Res A S) (n : ℕ) where
  pub deepen-end : (d : ℕ) (s : S) → n ≤ d → deepen_from f n d s ≡ still s
  unfolding deepen_from deepen
  deepen-end d s h = ap (λ (k : ℕ). deepen f d k s) z
    where
      z : n - d ≡ 0
      z = omega arith

  deepen-step : (d : ℕ) (s : S) → d < n → deepen_from f n d s ≡ and_then (f d s) (deepen_from f n (d + 1))
  unfolding deepen_from deepen
  deepen-step d s h = ap (λ (k : ℕ). deepen f d k s) e ∙ ap (λ (i : ℕ). and_then (f d s) (λ t. deepen f i (n - (d + 1)) t)) (sym (add-one d))
    where
      e : n - d ≡ suc (n - (d + 1))
      e = omega arith

  pub deepen-open : (d : ℕ) (s : S) {t : S} → d < n → f d s ≡ still t → deepen_from f n d s ≡ deepen_from f n (d + 1) t
  unfolding and_then
  deepen-open d s h q = deepen-step d s h ∙ ap (λ (z : Res A S). and_then z (deepen_from f n (d + 1))) q

  pub deepen-done : (d : ℕ) (s : S) {a : A} {t : S} → d < n → f d s ≡ done a t → deepen_from f n d s ≡ done a t
  unfolding and_then
  deepen-done d s h q = deepen-step d s h ∙ ap (λ (z : Res A S). and_then z (deepen_from f n (d + 1))) q

module _ {A S X : Type 0} (r : Rules A S ℕ X) (x : X) (s : S) where
  pub enter-stop : {a : A} {t : S} (d : ℕ) → r.pay s ≡ done a t → enter r d x s ≡ done a t
  unfolding enter and_then
  enter-stop zero p = ap (λ (z : Res A S). and_then z (branch (r.ends x) (r.finish x) still)) p
  enter-stop (suc d) p = ap (λ (z : Res A S). and_then z (branch (r.cut x (suc d)) still (walk r (enter r d) x r.moves))) p

  module _ {t : S} (p : r.pay s ≡ still t) where
    enter-last : (b : Bool) → r.ends x ≡ b → enter r 0 x s ≡ branch b (r.finish x) still t
    unfolding enter and_then
    enter-last b e =
        ap (λ (z : Res A S). and_then z (branch (r.ends x) (r.finish x) still)) p
        ∙ ap (λ (c : Bool). branch c (r.finish x) still t) e

    pub enter-finish : (d : ℕ) → d ≡ 0 → r.ends x ≡ true → enter r d x s ≡ r.finish x t
    unfolding branch
    enter-finish d z e = ap (λ (k : ℕ). enter r k x s) z ∙ enter-last true e

    pub enter-leave : (d : ℕ) → d ≡ 0 → r.ends x ≡ false → enter r d x s ≡ still t
    unfolding branch
    enter-leave d z e = ap (λ (k : ℕ). enter r k x s) z ∙ enter-last false e

    enter-more : (d : ℕ) (b : Bool) → r.cut x (suc d) ≡ b → enter r (suc d) x s ≡ branch b still (walk r (enter r d) x r.moves) t
    unfolding enter and_then
    enter-more d b e =
        ap (λ (z : Res A S). and_then z (branch (r.cut x (suc d)) still (walk r (enter r d) x r.moves))) p
        ∙ ap (λ (c : Bool). branch c still (walk r (enter r d) x r.moves) t) e

    pub enter-cut : (d : ℕ) → (d ≡ 0 → ⊥) → r.cut x d ≡ true → enter r d x s ≡ still t
    unfolding branch
    enter-cut zero z e = absurd (z refl)
    enter-cut (suc d) z e = enter-more d true e

    pub enter-walk : (d : ℕ) → (d ≡ 0 → ⊥) → r.cut x d ≡ false → enter r d x s ≡ walk_over r (d - 1) x r.moves t
    unfolding branch walk_over
    enter-walk zero z e = absurd (z refl)
    enter-walk (suc d) z e = enter-more d false e ∙ ap (λ (k : ℕ). walk r (enter r k) x r.moves t) (sym (sub-one (suc d)))
