-- The search with a budget against the one that counts, over any tables: both phases, and the answer. Assumes nothing.
use Prim.Native.Nat.{ℕ, zero, suc, ◌+◌, ◌-◌, ◌<◌, ◌≤◌}
use mathlib.Core.Path.{◌≡◌, refl, sym, ap, ◌∙◌}
use mathlib.Core.Bool.{Bool, true, false}
use mathlib.Core.Logic.{◌⊎◌, inl, inr}
use mathlib.Core.List.{List, []}
use lib.ListN.{length}
use native.Mathlib.Nat.{le_refl}
use native.Mathlib.Omega.{arith}
use Rattle.base.specs.Finds.{Goes, goes, stops}
use Rattle.base.specs.Lists.{pick}
use Rattle.base.specs.Search.{Res, still, done, left_of}
use Rattle.base.proofs.Tally.{with_left, Metered, open_both, done_both, short, Meters, done-meters, branch-meters, deepen-meters, Priced, enter-meters, metered-paid}
use Rattle.cubie.specs.Cube.{apply_moves}
use Rattle.cubie.specs.declared.CubieCube.{CubieCube}
use Rattle.phase2_steps.specs.Rules.{Ans, solved, nothing, spent, refused, Shape, phase1, phase2, Turns, Fars, Coords, At, at, below_of, go_of, next_of, pay_of, rules}
use Rattle.phase2_steps.specs.Paths.{padded}
use Rattle.phase2_steps.specs.Second.{turns2, fars2, coords2, finish2, run2}
use Rattle.phase1_steps.specs.First.{turns1, fars1, coords1, under, full_of, finish1, run1, table_solve}
use Rattle.refusal.specs.declared.Refusal.{Refusal}
use Rattle.refusal.specs.declared.Refusal.TheVariants as refusal
use Rattle.search.specs.Solve.{no_lists, answer_of, solves, checked, searched}
use Rattle.search.specs.declared.Found.TheVariants as found
use Rattle.search.specs.declared.Solution.{Solution}
use Rattle.demands.specs.Tally.{tally_run2, tally_finish1, tally_run1, tally_solve, tally_of}

-- every answer but spent
abbrev pub Kept : {L : Type 0} → Ans L → Type 0
Kept (solved l) = Unit {0}
Kept nothing = Unit {0}
Kept spent = ⊥
Kept refused = Unit {0}

-- ---- both phases

pay-meters : {L : Type 0} → Meters {A = Ans L} spent Kept pay_of (λ c. still (suc c))
unfolding pay_of left_of
pay-meters {L} = record { runs = go; grows = λ c. omega arith }
  where
    go : (s c n : ℕ) → s + c ≡ n → Metered {A = Ans L} spent Kept n (pay_of s) (still (suc c))
    go zero c n e = short {q = still (suc c)} (omega arith)
    go (suc s) c n e = open_both {s = s} {c = suc c} (omega arith)

priced : {L : Type 0} (sh : Shape) (t : Turns) (f : Fars) (finish finish' : At → ℕ → Res (Ans L) ℕ) → ((x : At) → Meters spent Kept (finish x) (finish' x)) → Priced spent Kept (rules sh t f finish) finish'
unfolding rules next_of
priced {L} sh t f finish finish' h = record { pays = pay-meters; stopping = λ x j. go (below_of sh (go_of sh t x.at j)) _; finishes = h }
  where
    go : (b : Bool) (y : At) → Goes Kept (λ (x : At). Unit {0}) (next_of {L = L} b y)
    go true y = goes tt
    go false y = stops tt

run2-meters : (t : Turns) (f : Fars) (c : Coords) (last d : ℕ) → Meters spent Kept (run2 t f c last d) (tally_run2 t f c last d)
unfolding finish2
run2-meters t f c last d = enter-meters (priced phase2 t f finish2 finish2 (λ x. done-meters tt)) d (at c last [])

-- what was found put otherwise
under_left : {L K : Type 0} (g : L → K) (q : Res (Ans L) ℕ) → left_of (under g q) ≡ left_of q
unfolding under left_of
under_left g (still s) = refl
under_left g (done (solved l) s) = refl
under_left g (done nothing s) = refl
under_left g (done spent s) = refl
under_left g (done refused s) = refl

under-metered : {L K : Type 0} (g : L → K) {n : ℕ} {p q : Res (Ans L) ℕ} → Metered spent Kept n p q → Metered spent Kept n (under g p) (under g q)
unfolding under
under-metered g (open_both e) = open_both e
under-metered g (done_both {a = solved l} o e) = done_both tt e
under-metered g (done_both {a = nothing} o e) = done_both tt e
under-metered g (done_both {a = spent} o e) = absurd o
under-metered g (done_both {a = refused} o e) = done_both tt e
under-metered g (short {q = q} l) = short {q = under g q} (omega (arith, l, under_left g q))

under-meters : {L K : Type 0} (h : L → K) {f g : ℕ → Res (Ans L) ℕ} → Meters spent Kept f g → Meters spent Kept (λ s. under h (f s)) (λ c. under h (g c))
under-meters h {g = g} m = record { runs = λ s c n e. under-metered h (m.runs s c n e); grows = λ c. omega (arith, m.grows c, under_left h (g c)) }

module _ (t : Turns) (f : Fars) (t2 : Turns) (f2 : Fars) (cube : CubieCube) (limit : ℕ) where
  finish1-meters : (last : ℕ) (list : List ℕ) → Meters spent Kept (finish1 t2 f2 cube limit last list) (tally_finish1 t2 f2 cube limit last list)
  unfolding finish1 tally_finish1
  finish1-meters last list =
      branch-meters (full_of limit (length list)) (done-meters tt)
      (under-meters (λ l. (list, l)) (deepen-meters (λ d. run2-meters t2 f2 (coords2 (apply_moves cube list)) last d) 0 (limit - length list)))

  run1-meters : (c : Coords) (d : ℕ) → Meters spent Kept (run1 t f t2 f2 cube limit c d) (tally_run1 t f t2 f2 cube limit c d)
  run1-meters c d =
      enter-meters (priced phase1 t f (λ x. finish1 t2 f2 cube limit x.last x.list) (λ x. tally_finish1 t2 f2 cube limit x.last x.list) (λ x. finish1-meters x.last x.list)) d (at c 18 [])

  pub solve-meters : (c : Coords) → Meters spent Kept (table_solve t f t2 f2 cube limit c) (tally_solve t f t2 f2 cube limit c)
  unfolding table_solve tally_solve
  solve-meters c = deepen-meters (λ d. run1-meters c d) 0 (limit + 1)

-- ---- the answer

nothing-spent : found.Nothing ≡ found.Spent → ⊥
nothing-spent e = let z : ◌≡◌ {A = ℕ} 0 1 = cc in omega arith

solved-spent : found.Solved ≡ found.Spent → ⊥
solved-spent e = let z : ◌≡◌ {A = ℕ} 0 1 = cc in omega arith

pub refused-spent : (n : Refusal) → found.Refused n ≡ found.Spent → ⊥
refused-spent n e = let z : ◌≡◌ {A = ℕ} 0 1 = cc in omega arith

-- an answer of a search with this budget, by what was counted: not spent, and the count is what was counted; or spent, and the count is the budget
pub record Paid (budget tally : ℕ) (r : Solution) : Type 0 where
  pub other : r.found ≡ found.Spent → ⊥
  pub count : r.count ≡ tally
  pub enough : tally ≤ budget

pub record Short (budget tally : ℕ) (r : Solution) : Type 0 where
  pub is : r ≡ no_lists found.Spent budget
  pub more : budget < tally

module _ (cube : CubieCube) (budget : ℕ) where
  told : {p q : Res (Ans (List ℕ × List ℕ)) ℕ} → Metered spent Kept budget p q → Paid budget (left_of q) (checked cube (answer_of budget p)) ⊎ Short budget (left_of q) (checked cube (answer_of budget p))
  unfolding answer_of checked left_of
  told (open_both e) = inl (record { other = nothing-spent; count = omega arith; enough = omega arith })
  told (done_both {a = nothing} o e) = inl (record { other = nothing-spent; count = omega arith; enough = omega arith })
  told (done_both {a = spent} o e) = absurd o
  told (done_both {a = refused} o e) = inl (record { other = refused-spent refusal.Entry; count = omega arith; enough = omega arith })
  told (done_both {a = solved l} {s = s} {c = c} o e) = inl (go (solves cube _))
    where
      r : Solution
      r = answer_of budget (done (solved l) s)

      go : (b : Bool) → Paid budget c (pick b r (no_lists (found.Refused refusal.LastCheck) r.count))
      go true = record { other = solved-spent; count = omega arith; enough = omega arith }
      go false = record { other = refused-spent refusal.LastCheck; count = omega arith; enough = omega arith }
  told (short l) = inr (record { is = ap (no_lists found.Spent) (omega arith); more = l })

-- a budget that is enough leaves no trace in the answer
answer-paid : (n : ℕ) (q : Res (Ans (List ℕ × List ℕ)) ℕ) → left_of q ≤ n → answer_of n (with_left (n - left_of q) q) ≡ answer_of (left_of q) (with_left 0 q)
unfolding left_of with_left answer_of
answer-paid n (still c) h = ap (no_lists found.Nothing) (omega arith)
answer-paid n (done nothing c) h = ap (no_lists found.Nothing) (omega arith)
answer-paid n (done spent c) h = ap (no_lists found.Spent) (omega arith)
answer-paid n (done refused c) h = ap (no_lists (found.Refused refusal.Entry)) (omega arith)
answer-paid n (done (solved l) c) h = ap (λ (k : ℕ). record { found = found.Solved; count = k; n1 = length l.0; phase1 = padded l.0; n2 = length l.1; phase2 = padded l.1 }) (omega arith)

module _ (cube : CubieCube) (limit : ℕ) (moves prunes : List ℕ) where
  abbrev tally : Res (Ans (List ℕ × List ℕ)) ℕ
  tally = tally_solve (turns1 moves) (fars1 prunes) (turns2 moves) (fars2 prunes) cube limit (coords1 cube) 0

  metered : (budget : ℕ) → Metered spent Kept budget (table_solve (turns1 moves) (fars1 prunes) (turns2 moves) (fars2 prunes) cube limit (coords1 cube) budget) tally
  metered budget = (solve-meters (turns1 moves) (fars1 prunes) (turns2 moves) (fars2 prunes) cube limit (coords1 cube)).runs budget 0 budget (omega arith)

  pub searched-told : (budget : ℕ) → Paid budget (tally_of cube limit moves prunes) (searched cube limit budget moves prunes) ⊎ Short budget (tally_of cube limit moves prunes) (searched cube limit budget moves prunes)
  unfolding tally_of
  searched-told budget = told cube budget (metered budget)

  -- the search that counts, as an answer
  abbrev counted : Solution
  counted = checked cube (answer_of (left_of tally) (with_left 0 tally))

  is-counted : (budget : ℕ) → left_of tally ≤ budget → searched cube limit budget moves prunes ≡ counted
  is-counted budget h = ap (λ q. checked cube (answer_of budget q)) (metered-paid (metered budget) h) ∙ ap (checked cube) (answer-paid budget tally h)

  pub searched-enough : (budget : ℕ) → tally_of cube limit moves prunes ≤ budget → searched cube limit budget moves prunes ≡ searched cube limit (tally_of cube limit moves prunes) moves prunes
  unfolding tally_of
  searched-enough budget h = is-counted budget h ∙ sym (is-counted (left_of tally) (le_refl (left_of tally)))
