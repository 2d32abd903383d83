-- The steps of both phases' search, in the terms of the code: one fact for each way that the code goes. Assumes nothing.
use Prim.Native.Nat.{ℕ, zero, suc, ◌+◌, ◌-◌, ◌<◌, ◌≤◌}
use mathlib.Core.Path.{◌≡◌, refl, sym, ap, ◌∙◌}
use mathlib.Core.Bool.{Bool, true, false, ◌&&◌, false≢true}
use mathlib.Core.List.{List, [], ◌∷◌, ◌++◌}
use native.Mathlib.Nat.{le_refl, le_of_eq}
use native.Mathlib.Numerals.{sub-one}
use native.Mathlib.Omega.{arith}
use lib.Dec.{ltb, lit≤}
use lib.ListN.{take, set}
use borrow.Author.Tests.{lt-ltb, le-ltb, ltb-true}
use Rattle.base.specs.Lists.{range}
use Rattle.base.specs.Search.{Res, still, done, Rules, enter, walk_over, left_of}
use Rattle.base.proofs.Product.{range-under}
use Rattle.base.proofs.Search.{enter-stop, enter-finish, enter-leave, enter-cut, enter-walk, over-refuse, over-open, over_done, walk-keep}
use Rattle.base.proofs.Budget.{enter-spends}
use Rattle.moves.specs.Moves.{open_of}
use Rattle.columns.proofs.Columns.{free, all-free}
use Rattle.phase2_steps.specs.Rules.{Shape, Turns, Fars, Coords, At, at, Ans, spent, refused, below_of, go_of, ends_of, cut_of, cut_at_once, moved, next_of, pay_of, rules}
use Rattle.phase2_steps.specs.Paths.{Holds}
use Rattle.phase2_steps.specs.Second.{finish2, rules2}
use Rattle.phase2_steps.proofs.Facts.{and-false}
use Rattle.phase2_steps.proofs.Path.{take_more}

pay-none : {L : Type 0} (s : ℕ) → s ≡ 0 → pay_of {L = L} s ≡ done spent 0
unfolding pay_of
pay-none s z = ap pay_of z

pay-one : {L : Type 0} (s : ℕ) → (s ≡ 0 → ⊥) → pay_of {L = L} s ≡ still (s - 1)
unfolding pay_of
pay-one zero z = absurd (z refl)
pay-one (suc s) z = ap still (sym (sub-one (suc s)))

-- the three ways of an entry that is cut at once, or isn't
module _ (sh : Shape) (f : Fars) (x : Coords) (d s : ℕ) where
  pub unpaid : s ≡ 0 → cut_at_once sh f x d s ≡ false
  unfolding cut_at_once
  unpaid z = ap (λ (b : Bool). b && (ltb 0 d && cut_of sh f x d)) (le-ltb 0 s (le_of_eq z))

  pub no-depth : d ≡ 0 → cut_at_once sh f x d s ≡ false
  unfolding cut_at_once
  no-depth z = ap (λ (b : Bool). ltb 0 s && (b && cut_of sh f x d)) (le-ltb 0 d (le_of_eq z)) ∙ and-false (ltb 0 s)

  pub paid : (s ≡ 0 → ⊥) → (d ≡ 0 → ⊥) → cut_at_once sh f x d s ≡ cut_of sh f x d
  unfolding cut_at_once
  paid p q = λ i. lt-ltb 0 s (pos p) i && (lt-ltb 0 d (pos q) i && cut_of sh f x d)
    where
      pos : {n : ℕ} → (n ≡ 0 → ⊥) → 0 < n
      pos h = omega (arith, h)

  cut-needs : cut_at_once sh f x d s ≡ true → (0 < s) × (0 < d) × (cut_of sh f x d ≡ true)
  unfolding cut_at_once
  cut-needs e = by (ltb 0 s) (ltb 0 d) (cut_of sh f x d) refl refl refl e
    where
      by : (p q r : Bool) → ltb 0 s ≡ p → ltb 0 d ≡ q → cut_of sh f x d ≡ r → (p && (q && r)) ≡ true → (0 < s) × (0 < d) × (cut_of sh f x d ≡ true)
      by true true true a b c e = (ltb-true 0 s a, ltb-true 0 d b, c)
      by true true false a b c e = absurd (false≢true e)
      by true false r a b c e = absurd (false≢true e)
      by false q r a b c e = absurd (false≢true e)

  pub cut-paid : cut_at_once sh f x d s ≡ true → 0 < s
  cut-paid e = (cut-needs e).0

  pub same-cut : {y : Coords} {b : Bool} → y ≡ x → cut_at_once sh f x d s ≡ b → cut_at_once sh f y d s ≡ b
  same-cut e h = ap (λ (z : Coords). cut_at_once sh f z d s) e ∙ h

  pub uncut : (s ≡ 0 → ⊥) → (d ≡ 0 → ⊥) → cut_at_once sh f x d s ≡ false → cut_of sh f x d ≡ false
  uncut p z e = sym (paid p z) ∙ e

module _ {L : Type 0} (sh : Shape) (t : Turns) (f : Fars) (finish : At → ℕ → Res (Ans L) ℕ) where
  module _ (x : At) (d s : ℕ) where
    pub spends : s ≡ 0 → enter (rules sh t f finish) d x s ≡ done spent 0
    unfolding rules
    spends z = enter-stop (rules sh t f finish) x s d (pay-none s z)

    module _ (p : s ≡ 0 → ⊥) where
      pub finishes : d ≡ 0 → ends_of x.at ≡ true → enter (rules sh t f finish) d x s ≡ finish x (s - 1)
      unfolding rules
      finishes z e = enter-finish (rules sh t f finish) x s (pay-one s p) d z e

      pub leaves : d ≡ 0 → ends_of x.at ≡ false → enter (rules sh t f finish) d x s ≡ still (s - 1)
      unfolding rules
      leaves z e = enter-leave (rules sh t f finish) x s (pay-one s p) d z e

      pub cuts : (d ≡ 0 → ⊥) → cut_of sh f x.at d ≡ true → enter (rules sh t f finish) d x s ≡ still (s - 1)
      unfolding rules
      cuts z e = enter-cut (rules sh t f finish) x s (pay-one s p) d z e

      walks : (d ≡ 0 → ⊥) → cut_of sh f x.at d ≡ false → enter (rules sh t f finish) d x s ≡ walk_over (rules sh t f finish) (d - 1) x (range 0 sh.w) (s - 1)
      unfolding rules
      walks z e = enter-walk (rules sh t f finish) x s (pay-one s p) d z e

  -- the walk of an entry is over the set ms of the columns that may follow the last move; every column is a move
  pub walks-open : ((j : ℕ) → j < sh.w → sh.name j < 18) → (c : Coords) (last : ℕ) (list : List ℕ) (d s : ℕ) (ms : List ℕ) → (s ≡ 0 → ⊥) → (d ≡ 0 → ⊥) → cut_of sh f c d ≡ false → ms ≡ open_of sh.name sh.w last
      → enter (rules sh t f finish) d (at c last list) s ≡ walk_over (rules sh t f finish) (d - 1) (at c 18 list) ms (s - 1)
  unfolding rules walk_over open_of
  walks-open named c last list d s ms p z e m =
      walks (at c last list) d s p z e
      ∙ walk-keep (rules sh t f finish) (enter (rules sh t f finish) (d - 1)) (at c last list) (at c 18 list) (λ j. refl) (range 0 sh.w)
      (all-free sh.name sh.w named 18 (lit≤ tt) (range 0 sh.w) (range-under 0 sh.w sh.w (omega arith))) (s - 1)
      ∙ ap (λ (l : List ℕ). walk_over (rules sh t f finish) (d - 1) (at c 18 list) l (s - 1)) (sym m)

  -- an entry that is cut at once
  pub cuts-at-once : (x : At) (d s : ℕ) → cut_at_once sh f x.at d s ≡ true → enter (rules sh t f finish) d x s ≡ still (s - 1)
  cuts-at-once x d s e =
      let all = cut-needs sh f x.at d s e in
      cuts x d s (λ z. omega (arith, all.0, z)) (λ z. omega (arith, all.1, z)) all.2

-- One column of a walk over a set, as the code goes: j is the lowest of the set's columns ms, and ms' are the others.
module _ {L : Type 0} (sh : Shape) (t : Turns) (f : Fars) (finish : At → ℕ → Res (Ans L) ℕ) (named : (j : ℕ) → j < sh.w → sh.name j < 18) (c : Coords) (list : List ℕ) (d s : ℕ) {j : ℕ} {ms ms' : List ℕ} (first : ms ≡ j ∷ ms') (low : j < sh.w) where
  may : (rules sh t f finish).avail (at c 18 list) j ≡ true
  unfolding rules
  may = free 18 (sh.name j) (lit≤ tt) (named j low)

  next-is : (b : Bool) → below_of sh (go_of sh t c j) ≡ b → (rules sh t f finish).next (at c 18 list) j ≡ next_of b (moved (go_of sh t c j) (sh.name j) list)
  unfolding rules
  next-is b e = ap (λ (b : Bool). next_of b (moved (go_of sh t c j) (sh.name j) list)) e

  over : walk_over (rules sh t f finish) d (at c 18 list) ms s ≡ walk_over (rules sh t f finish) d (at c 18 list) (j ∷ ms') s
  over = ap (λ (l : List ℕ). walk_over (rules sh t f finish) d (at c 18 list) l s) first

  pub refuses : below_of sh (go_of sh t c j) ≡ false → walk_over (rules sh t f finish) d (at c 18 list) ms s ≡ done refused s
  unfolding next_of
  refuses e = over ∙ over-refuse (rules sh t f finish) d (at c 18 list) j ms' s may (next-is false e)

  module _ (e : below_of sh (go_of sh t c j) ≡ true) where
    goes_on : {s' : ℕ} → enter (rules sh t f finish) d (moved (go_of sh t c j) (sh.name j) list) s ≡ still s'
        → walk_over (rules sh t f finish) d (at c 18 list) ms s ≡ walk_over (rules sh t f finish) d (at c 18 list) ms' s'
    unfolding next_of
    goes_on q = over ∙ over-open (rules sh t f finish) d (at c 18 list) j ms' s may (next-is true e) q

    ends_with : {r : Ans L} {s' : ℕ} → enter (rules sh t f finish) d (moved (go_of sh t c j) (sh.name j) list) s ≡ done r s' → walk_over (rules sh t f finish) d (at c 18 list) ms s ≡ done r s'
    unfolding next_of
    ends_with q = over ∙ over_done (rules sh t f finish) d (at c 18 list) j ms' s may (next-is true e) q

    -- the position after the move is cut at once
    pub passes : {c' : Coords} → c' ≡ go_of sh t c j → cut_at_once sh f c' d s ≡ true
        → walk_over (rules sh t f finish) d (at c 18 list) ms s ≡ walk_over (rules sh t f finish) d (at c 18 list) ms' (s - 1)
    passes {c'} same q = goes_on (cuts-at-once sh t f finish (moved (go_of sh t c j) (sh.name j) list) d s (same-cut sh f c' d s (sym same) q))

-- The same where it isn't: the n moves so far stand in an array, and the move m of column j is stored behind them.
module _ {L : Type 0} (sh : Shape) (t : Turns) (f : Fars) (finish : At → ℕ → Res (Ans L) ℕ) (named : (j : ℕ) → j < sh.w → sh.name j < 18) (c : Coords) {n : ℕ} {path : List ℕ} (d s : ℕ) {j : ℕ} {ms ms' : List ℕ} (first : ms ≡ j ∷ ms') (low : j < sh.w) (hold : Holds path n) (room : n < 31) {m : ℕ} (is : m ≡ sh.name j) (b : below_of sh (go_of sh t c j) ≡ true) {c' : Coords} (e : c' ≡ go_of sh t c j) {k : ℕ} (el : k ≡ m) where
  same-list : take (n + 1) (set path n m) ≡ take n path ++ (sh.name j ∷ [])
  same-list = take_more hold m room ∙ ap (λ (m : ℕ). take n path ++ (m ∷ [])) is

  same-last : k ≡ sh.name j
  same-last = el ∙ is

  same-entry : enter (rules sh t f finish) d (at c' k (take (n + 1) (set path n m))) s ≡ enter (rules sh t f finish) d (moved (go_of sh t c j) (sh.name j) (take n path)) s
  same-entry = λ i. enter (rules sh t f finish) d (record { at = e i; last = same-last i; list = same-list i }) s

  pub back-open : {s' : ℕ} → enter (rules sh t f finish) d (at c' k (take (n + 1) (set path n m))) s ≡ still s'
      → walk_over (rules sh t f finish) d (at c 18 (take n path)) ms s ≡ walk_over (rules sh t f finish) d (at c 18 (take n path)) ms' s'
  back-open q = goes_on sh t f finish named c (take n path) d s first low b (sym same-entry ∙ q)

  pub back_done : {r : Ans L} {s' : ℕ} → enter (rules sh t f finish) d (at c' k (take (n + 1) (set path n m))) s ≡ done r s' → walk_over (rules sh t f finish) d (at c 18 (take n path)) ms s ≡ done r s'
  back_done q = ends_with sh t f finish named c (take n path) d s first low b (sym same-entry ∙ q)

-- the same walk, over a path and a budget that are the same
pub same-walk : {L : Type 0} (r : Rules (Ans L) ℕ ℕ At) (d : ℕ) (c : Coords) (last n : ℕ) (ms : List ℕ) {p p' : List ℕ} {s s' : ℕ} → p' ≡ p → s ≡ s' → walk_over r d (at c last (take n p)) ms s ≡ walk_over r d (at c last (take n p')) ms s'
same-walk r d c last n ms e es = λ i. walk_over r d (at c last (take n (sym e i))) ms (es i)

-- a search never gains budget
pub pay-spends : (L : Type 0) (s : ℕ) → left_of (pay_of {L = L} s) ≤ s
unfolding pay_of left_of
pay-spends L zero = le_refl 0
pay-spends L (suc s) = omega arith

pub enter2-spends : (t : Turns) (f : Fars) (d : ℕ) (x : At) (s : ℕ) → left_of (enter (rules2 t f) d x s) ≤ s
unfolding rules finish2 left_of
enter2-spends t f = enter-spends (rules2 t f) (pay-spends _) (λ x s. le_refl s)
