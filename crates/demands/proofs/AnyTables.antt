-- Over any tables at all, what the search finds is made of moves, and shorter than the limit. Assumes nothing.
use Prim.Native.Nat.{ℕ, zero, suc, ◌+◌, ◌-◌, ◌<◌}
use mathlib.Core.Bool.{Bool, true, false}
use mathlib.Core.List.{List, [], ◌++◌}
use lib.ListN.{length}
use native.Mathlib.Omega.{arith}
use Rattle.base.specs.Finds.{Says, silent, says, Goes, goes, stops}
use Rattle.base.specs.Search.{Res, done, enter}
use Rattle.base.proofs.Finds.{range-in, branch-says, deepen-says, enter-says}
use Rattle.cubie.specs.declared.CubieCube.{CubieCube}
use Rattle.columns.proofs.Columns.{phase1-column, phase2-column}
use Rattle.phase2_steps.specs.Rules.{Ans, nothing, spent, refused, Shape, phase1, phase2, Turns, Fars, Coords, At, at, below_of, go_of, moved, next_of, pay_of, rules}
use Rattle.phase2_steps.specs.Second.{finish2}
use Rattle.phase1_steps.specs.First.{full_of, finish1, table_solve}
use Rattle.demands.proofs.Lengths.{Grown, grown-none, grown-more, Short, short-grown, short-both, Means, under-says}

module _ {L : Type 0} (P : Ans L → Type 0) (out : P spent) (off : P refused) where
  pays : (s : ℕ) → Says P (pay_of s)
  unfolding pay_of
  pays zero = says out
  pays (suc s) = silent

  -- one length n of a phase
  phase-says : (sh : Shape) (t : Turns) (f : Fars) (finish : At → ℕ → Res (Ans L) ℕ) → ((j : ℕ) → j < sh.w → sh.name j < 18) → (n : ℕ) → ((x : At) → Grown n 0 x.list → (s : ℕ) → Says P (finish x s)) → (d : ℕ) (x : At) → Grown n d x.list → (s : ℕ) → Says P (enter (rules sh t f finish) d x s)
  unfolding rules next_of
  phase-says sh t f finish named n last d x g s =
      enter-says (rules sh t f finish) (λ d x. Grown n d x.list) pays
      (λ d x j i h. step d x j (omega (arith, range-in j 0 sh.w i)) h (below_of sh (go_of sh t x.at j)))
      (λ x h e s. last x h s) d x g s
    where
      step : (d : ℕ) (x : At) (j : ℕ) → j < sh.w → Grown n (suc d) x.list → (b : Bool) → Goes P (λ (x : At). Grown n d x.list) (next_of b (moved (go_of sh t x.at j) (sh.name j) x.list))
      step d x j l h true = goes (grown-more (sh.name j) (named j l) h)
      step d x j l h false = stops off

-- what is found is good for P; whatever else is answered says nothing
abbrev Found : {L : Type 0} → (L → Type 0) → Ans L → Type 0
Found F = Means (Unit {0}) (Unit {0}) F

second-says : (t : Turns) (f : Fars) (c : Coords) (last n d : ℕ) → d < n → (s : ℕ) → Says (Found (Short n)) (enter (rules phase2 t f finish2) d (at c last []) s)
unfolding finish2
second-says t f c last n d l s =
    phase-says (Found (Short n)) tt tt phase2 t f finish2 phase2-column d (λ x g s. says (short-grown l g)) d (at c last []) (grown-none d) s

module _ (t : Turns) (f : Fars) (t2 : Turns) (f2 : Fars) (cube : CubieCube) (limit : ℕ) where
  finish-says : (n last : ℕ) (l : List ℕ) → Grown n 0 l → (s : ℕ) → Says (Found (λ (b : List ℕ × List ℕ). Short limit (b.0 ++ b.1))) (finish1 t2 f2 cube limit last l s)
  unfolding finish1
  finish-says n last l g s =
      branch-says (full_of limit (length l)) (done nothing) _ s (λ a. says tt)
      (under-says (Short (limit - length l)) (λ (b : List ℕ × List ℕ). Short limit (b.0 ++ b.1)) (λ k. (l, k)) (λ z. z) (λ k h. short-both g h)
      (deepen-says _ 0 (limit - length l) (λ d h s. second-says t2 f2 _ last (limit - length l) d (omega arith) s) s))

  pub short-found : (c : Coords) (s : ℕ) → Says (Found (λ (b : List ℕ × List ℕ). Short limit (b.0 ++ b.1))) (table_solve t f t2 f2 cube limit c s)
  unfolding table_solve
  short-found c s =
      deepen-says _ 0 (limit + 1)
      (λ d h s. phase-says (Found (λ (b : List ℕ × List ℕ). Short limit (b.0 ++ b.1))) tt tt phase1 t f (λ x. finish1 t2 f2 cube limit x.last x.list) phase1-column d (λ x g s. finish-says d x.last x.list g s) d (at c 18 []) (grown-none d) s)
      s
