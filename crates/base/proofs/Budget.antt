-- A search never gains budget. Assumes nothing.
use Prim.Native.Nat.{ℕ, zero, suc, ◌≤◌}
use mathlib.Core.Bool.{Bool, true, false}
use mathlib.Core.List.{List, [], ◌∷◌}
use native.Mathlib.Nat.{le_refl, le_trans}
use Rattle.base.specs.Search.{Res, still, done, Next, refuse, to, Rules, and_then, branch, deepen, through, walk, enter, left_of}

module _ {A : Type 0} where
  and_then-spends : (p : Res A ℕ) (f : ℕ → Res A ℕ) {n : ℕ} → left_of p ≤ n → ((s : ℕ) → left_of (f s) ≤ s) → left_of (and_then p f) ≤ n
  unfolding left_of and_then
  and_then-spends (still s) f l h = le_trans (h s) l
  and_then-spends (done a s) f l h = l

  pub branch-spends : (b : Bool) (f g : ℕ → Res A ℕ) (s : ℕ) → left_of (f s) ≤ s → left_of (g s) ≤ s → left_of (branch b f g s) ≤ s
  unfolding branch
  branch-spends true f g s h k = h
  branch-spends false f g s h k = k

  pub deepen-spends : (f : ℕ → ℕ → Res A ℕ) → ((d s : ℕ) → left_of (f d s) ≤ s) → (d n s : ℕ) → left_of (deepen f d n s) ≤ s
  unfolding deepen left_of
  deepen-spends f h d zero s = le_refl s
  deepen-spends f h d (suc n) s = and_then-spends (f d s) (λ t. deepen f (suc d) n t) (h d s) (λ t. deepen-spends f h (suc d) n t)

  through-spends : {X : Type 0} (y : Next A X) (f : X → ℕ → Res A ℕ) (k : ℕ → Res A ℕ) (s : ℕ) → ((x : X) (s : ℕ) → left_of (f x s) ≤ s) → ((s : ℕ) → left_of (k s) ≤ s) → left_of (through y f k s) ≤ s
  unfolding through left_of
  through-spends (refuse a) f k s h l = le_refl s
  through-spends (to x) f k s h l = and_then-spends (f x s) k (h x s) l

module _ {A M X : Type 0} (r : Rules A ℕ M X) (pays : (s : ℕ) → left_of (r.pay s) ≤ s) (finishes : (x : X) (s : ℕ) → left_of (r.finish x s) ≤ s) where
  walk-spends : (f : X → ℕ → Res A ℕ) → ((x : X) (s : ℕ) → left_of (f x s) ≤ s) → (x : X) (l : List M) (s : ℕ) → left_of (walk r f x l s) ≤ s
  unfolding walk left_of
  walk-spends f h x [] s = le_refl s
  walk-spends f h x (m ∷ l) s =
      branch-spends (r.avail x m) (through (r.next x m) f (λ t. walk r f x l t)) (λ t. walk r f x l t) s
      (through-spends (r.next x m) f (λ t. walk r f x l t) s h (λ t. walk-spends f h x l t)) (walk-spends f h x l s)

  pub enter-spends : (d : ℕ) (x : X) (s : ℕ) → left_of (enter r d x s) ≤ s
  unfolding enter left_of
  enter-spends zero x s = and_then-spends (r.pay s) _ (pays s) (λ t. branch-spends (r.ends x) (r.finish x) still t (finishes x t) (le_refl t))
  enter-spends (suc d) x s =
      and_then-spends (r.pay s) _ (pays s)
      (λ t. branch-spends (r.cut x (suc d)) still (walk r (enter r d) x r.moves) t (le_refl t) (walk-spends (enter r d) (λ y u. enter-spends d y u) x r.moves t))
