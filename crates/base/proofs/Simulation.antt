-- A search with a cut and a budget agrees with a plain one, lists and all, unless it is lost: ended for want of budget, or with a
-- refusal. One theorem for every such search, and the same for runs over several lengths. Assumes nothing.
use Prim.Native.Nat.{ℕ, zero, suc}
use mathlib.Core.Path.{◌≡◌, refl, subst⁻¹}
use mathlib.Core.Bool.{Bool, true, false}
use mathlib.Core.List.{List, [], ◌∷◌}
use Rattle.base.specs.Lists.{Each}
use Rattle.base.specs.Simulation.{Agree, open_both, done_both, lost, Steps, step, stop, NoEnd, Simulates}
use Rattle.base.specs.Search.{Res, still, Next, to, Rules, and_then, branch, deepen, through, walk, enter, Plain, plain}

module _ {A S T : Type 0} {Lost : A → Type 0} where
  -- what goes on from agreeing parts agrees
  pub and_then-agree : {p : Res A S} {q : Res A T} {f : S → Res A S} {g : T → Res A T} → Agree Lost p q → ((s : S) (t : T) → Agree Lost (f s) (g t)) → Agree Lost (and_then p f) (and_then q g)
  unfolding and_then
  and_then-agree (open_both {s = s} {t = t}) h = h s t
  and_then-agree done_both h = done_both
  and_then-agree (lost l) h = lost l

  -- THE THEOREM over lengths: runs that agree at each length agree over all of them
  pub deepen-agree : {f : ℕ → S → Res A S} {g : ℕ → T → Res A T} → ((d : ℕ) (s : S) (t : T) → Agree Lost (f d s) (g d t)) → (d n : ℕ) (s : S) (t : T) → Agree Lost (deepen f d n s) (deepen g d n t)
  unfolding deepen
  deepen-agree h d zero s t = open_both
  deepen-agree h d (suc n) s t = and_then-agree (h d s t) (λ s' t'. deepen-agree h (suc d) n s' t')

  pub branch-agree : (b : Bool) (f g : S → Res A S) (f' g' : T → Res A T) (s : S) (t : T) → (b ≡ true → Agree Lost (f s) (f' t)) → (b ≡ false → Agree Lost (g s) (g' t)) → Agree Lost (branch b f g s) (branch b f' g' t)
  unfolding branch
  branch-agree true f g f' g' s t h k = h refl
  branch-agree false f g f' g' s t h k = k refl

  -- the first is cut where the second finds nothing
  cut-agree : (b : Bool) (g : S → Res A S) (q : Res A T) (s : S) (t : T) → (b ≡ true → q ≡ still t) → Agree Lost (g s) q → Agree Lost (branch b still g s) q
  unfolding branch
  cut-agree true g q s t h k = rw (h refl) open_both
  cut-agree false g q s t h k = k

  through-agree : {X Y : Type 0} {R : X → Y → Type 0} {n : Next A X} {y : Y} (f : X → S → Res A S) (g : Y → T → Res A T) (k : S → Res A S) (l : T → Res A T) (s : S) (t : T) → Steps Lost R n y → ((x : X) (y : Y) → R x y → (s : S) (t : T) → Agree Lost (f x s) (g y t)) → ((s : S) (t : T) → Agree Lost (k s) (l t)) → Agree Lost (through n f k s) (through (to y) g l t)
  unfolding through
  through-agree f g k l s t (step {x = x} {y = y} h) e rest = and_then-agree (e x y h s t) rest
  through-agree f g k l s t (stop h) e rest = lost h

branch-is : {A S : Type 0} (b : Bool) (f g : S → Res A S) (s : S) {q : Res A S} → (b ≡ true → f s ≡ q) → (b ≡ false → g s ≡ q) → branch b f g s ≡ q
unfolding branch
branch-is true f g s h k = h refl
branch-is false f g s h k = k refl

module _ {A M Y : Type 0} (p : Plain A M Y) (Ok : M → Type 0) where
  -- a walk whose every entry finds nothing finds nothing
  walk-nothing : (f : Y → Unit {0} → Res A (Unit {0})) (y : Y) (l : List M) → Each Ok l → ((m : M) → Ok m → p.avail y m ≡ true → (t : Unit {0}) → f (p.go y m) t ≡ still t) → (t : Unit {0}) → walk (plain p) f y l t ≡ still t
  unfolding plain walk through and_then
  walk-nothing f y [] e h t = refl
  walk-nothing f y (m ∷ l) e h t =
      branch-is (p.avail y m) (through (to (p.go y m)) f (λ t. walk (plain p) f y l t)) (λ t. walk (plain p) f y l t) t
      (λ q. rw (h m e.0 q t) (walk-nothing f y l e.1 h t))
      (λ q. walk-nothing f y l e.1 h t)

  -- where no plain path of d moves reaches an end, the plain search of d moves finds nothing
  pub nothing : (d : ℕ) (y : Y) → Each Ok p.moves → NoEnd p Ok d y → (t : Unit {0}) → enter (plain p) d y t ≡ still t
  unfolding plain enter NoEnd and_then branch
  nothing zero y ok h t = rw h
  nothing (suc d) y ok h t = walk-nothing (enter (plain p) d) y p.moves ok (λ m o a. nothing d (p.go y m) ok (h m o a)) t

module _ {A S M X Y : Type 0} {r : Rules A S M X} {p : Plain A M Y} {Lost : A → Type 0} {Ok : M → Type 0} {R : X → Y → Type 0} (sim : Simulates r p Lost Ok R) where
  -- a walk whose entries agree agrees
  walk-agree : (f : X → S → Res A S) (g : Y → Unit {0} → Res A (Unit {0})) → ((x : X) (y : Y) → R x y → (s : S) (t : Unit {0}) → Agree Lost (f x s) (g y t)) → (x : X) (y : Y) → R x y → (l : List M) → Each Ok l → (s : S) (t : Unit {0}) → Agree Lost (walk r f x l s) (walk (plain p) g y l t)
  unfolding plain walk
  walk-agree f g h x y e [] o s t = open_both
  walk-agree f g h x y e (m ∷ l) o s t =
      rw (sim.same_avail x y e m o.0)
      (branch-agree (p.avail y m) (through (r.next x m) f (λ t. walk r f x l t)) (λ t. walk r f x l t) (through (to (p.go y m)) g (λ t. walk (plain p) g y l t)) (λ t. walk (plain p) g y l t) s t
      (λ q. through-agree f g (λ t. walk r f x l t) (λ t. walk (plain p) g y l t) s t (sim.steps x y e m o.0) h (λ s' t'. walk-agree f g h x y e l o.1 s' t'))
      (λ q. walk-agree f g h x y e l o.1 s t))

  -- THE THEOREM at one length: from related positions, the search with cut and budget and the plain search agree
  pub enter-agree : (d : ℕ) (x : X) (y : Y) → R x y → (s : S) (t : Unit {0}) → Agree Lost (enter r d x s) (enter (plain p) d y t)
  unfolding plain enter and_then branch
  enter-agree zero x y e s t =
      and_then-agree {g = branch (p.ends y) (p.finish y) still} (sim.pays s t)
      (λ s' t'. rw (sim.same_ends x y e) (branch-agree (p.ends y) (r.finish x) still (p.finish y) still s' t' (λ q. sim.finishes x y e q s' t') (λ q. open_both)))
  enter-agree (suc d) x y e s t =
      and_then-agree {g = walk (plain p) (enter (plain p) d) y p.moves} (sim.pays s t)
      (λ s' t'. cut-agree (r.cut x (suc d)) (walk r (enter r d) x r.moves) (walk (plain p) (enter (plain p) d) y p.moves t') s' t'
      (λ q. nothing p Ok (suc d) y sim.moves_ok (sim.cuts x y e (suc d) q) t')
      (subst⁻¹ (λ (l : List M). Agree Lost (walk r (enter r d) x l s') (walk (plain p) (enter (plain p) d) y p.moves t')) sim.same_moves (walk-agree (enter r d) (enter (plain p) d) (λ x y e s t. enter-agree d x y e s t) x y e p.moves sim.moves_ok s' t')))
