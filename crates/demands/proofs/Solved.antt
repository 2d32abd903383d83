-- What `solve` answers, by how its search came out. Assumes nothing.
use Prim.Native.Nat.{ℕ, ◌≤◌}
use mathlib.Core.Path.{◌≡◌, refl, sym, ap, ap₂, subst, ◌∙◌}
use mathlib.Core.Bool.{Bool, true, false, ◌&&◌}
use mathlib.Core.List.{List, ◌++◌}
use lib.Dec.{leb, eqb}
use lib.ListN.{length, take}
use lib.Seq.{take-append_seam}
use native.Mathlib.Omega.{arith}
use borrow.Author.Tests.{le-leb, eq-eqb}
use Rattle.base.specs.Finds.{Says, says}
use Rattle.base.specs.Lists.{pick, same_list}
use Rattle.base.specs.Search.{Res, still, done}
use Rattle.base.specs.Simulation.{Agree, open_both, done_both, lost}
use Rattle.base.proofs.Tests.{both_true}
use Rattle.cubie.specs.Cube.{InRange, refusal_of, solved_cube, apply_moves, same_cube, is_home}
use Rattle.cubie.specs.Solvable.{solvable}
use Rattle.cubie.specs.declared.CubieCube.{CubieCube}
use Rattle.cubie.proofs.Range.{no-refusal}
use Rattle.phase2_steps.specs.Rules.{Ans, solved, nothing, spent, refused}
use Rattle.phase2_steps.specs.Paths.{padded}
use Rattle.pruning_table.specs.Check.{Blocks}
use Rattle.search.specs.Solve.{no_lists, answer_of, solves, checked, searched, before_search, solve_of}
use Rattle.search.proofs.Answered.{of-the-cube, solve-searches}
use Rattle.cubie.specs.Answers.{solvable_refusal}
use Rattle.refusal.specs.declared.Refusal.{Refusal}
use Rattle.refusal.specs.declared.Refusal.TheVariants as refusal
use Rattle.refusal.specs.Refusals.{named}
use Rattle.search.specs.declared.Found.TheVariants as found
use Rattle.search.specs.declared.Solution.{Solution}
use Rattle.demands.specs.Plain.{SaysAs, list_of}
use Rattle.demands.proofs.Agreement.{Lost}
use Rattle.demands.proofs.Complete.{Both}
use Rattle.demands.proofs.Lengths.{Short, Means}

-- ---- a list stands in its array

take-padded : (l : List ℕ) → take (length l) (padded l) ≡ l
unfolding padded
take-padded l = take-append_seam l _

lists-are : (budget s : ℕ) (l : List ℕ × List ℕ) → list_of (answer_of budget (done (solved l) s)) ≡ l.0 ++ l.1
unfolding answer_of
lists-are budget s l = ap₂ ◌++◌ (take-padded l.0) (take-padded l.1)

pub home-is : is_home solved_cube ≡ true
unfolding same_cube same_list solved_cube
home-is = refl

-- ---- the tests before the search

pick_true : {A : Type 0} {b : Bool} (x y : A) → b ≡ true → pick b x y ≡ x
pick_true x y e = rw e

module _ (cube : CubieCube) (limit budget : ℕ) (moves prunes : List ℕ) where
  -- it is searched where nothing is refused
  pub is-searched : InRange cube → solvable cube ≡ true → limit ≤ 31 → Blocks moves prunes → solve_of cube limit budget moves prunes ≡ searched cube limit budget moves prunes
  unfolding solvable_refusal
  is-searched r s l b =
      solve-searches cube limit budget moves prunes
      (of-the-cube cube limit moves prunes l b.six b.four ∙ pick_true _ _ (eq-eqb (refusal_of cube) 0 (no-refusal r)) ∙ pick_true _ _ s)

  -- and only there is it solved
  pub solved-searched : (solve_of cube limit budget moves prunes).found ≡ found.Solved → solve_of cube limit budget moves prunes ≡ searched cube limit budget moves prunes
  unfolding solve_of
  solved-searched h = go (eqb (before_search cube limit moves prunes) 0) (searched cube limit budget moves prunes) (named (before_search cube limit moves prunes)) h
    where
      go : (p : Bool) (s : Solution) (q : Refusal) → (pick p s (no_lists (found.Refused q) 0)).found ≡ found.Solved → pick p s (no_lists (found.Refused q) 0) ≡ s
      go true s q e = refl
      go false s q e = let z : found.Refused q ≡ found.Solved = e in cc

-- ---- the cases of an answer differ

pub nothing-solved : found.Nothing ≡ found.Solved → ⊥
nothing-solved e = let z : ◌≡◌ {A = ℕ} 0 1 = cc in omega arith

spent-solved : found.Spent ≡ found.Solved → ⊥
spent-solved e = let z : ◌≡◌ {A = ℕ} 0 1 = cc in omega arith

pub refused-solved : (n : Refusal) → found.Refused n ≡ found.Solved → ⊥
refused-solved n e = let z : ◌≡◌ {A = ℕ} 0 1 = cc in omega arith

pub refused-nothing : (n : Refusal) → found.Refused n ≡ found.Nothing → ⊥
refused-nothing n e = let z : ◌≡◌ {A = ℕ} 0 1 = cc in omega arith

-- ---- the last check

-- the lists of an answer solve the cube, and are short
pub record Solves (cube : CubieCube) (limit : ℕ) (r : Solution) : Type 0 where
  pub home : is_home (apply_moves cube (list_of r)) ≡ true
  pub short : Short limit (list_of r)

module _ (cube : CubieCube) (limit budget : ℕ) where
  -- what passed the check solves the cube, and is short if what was found is
  pub checked-solves : (q : Res (Ans (List ℕ × List ℕ)) ℕ) → Says (Means (Unit {0}) (Unit {0}) (λ (b : List ℕ × List ℕ). Short limit (b.0 ++ b.1))) q → (checked cube (answer_of budget q)).found ≡ found.Solved → Solves cube limit (checked cube (answer_of budget q))
  unfolding answer_of checked
  checked-solves (still s) h e = absurd (nothing-solved e)
  checked-solves (done nothing s) h e = absurd (nothing-solved e)
  checked-solves (done spent s) h e = absurd (spent-solved e)
  checked-solves (done refused s) h e = absurd (refused-solved refusal.Entry e)
  checked-solves (done (solved l) s) (says h) e = go (is_home (apply_moves cube (list_of r))) refl e
    where
      r : Solution
      r = answer_of budget (done (solved l) s)

      go : (b : Bool) → is_home (apply_moves cube (list_of r)) ≡ b → (pick b r (no_lists (found.Refused refusal.LastCheck) r.count)).found ≡ found.Solved → Solves cube limit (pick b r (no_lists (found.Refused refusal.LastCheck) r.count))
      go true e f = record { home = e; short = subst (Short limit) (sym (lists-are budget s l)) h }
      go false e f = absurd (refused-solved refusal.LastCheck f)

  -- a search that agrees with one whose lists lead home tells the same
  pub says-as : {q : Res (Ans (List ℕ × List ℕ)) ℕ} {p : Res (Ans (List ℕ × List ℕ)) (Unit {0})} → Agree Lost q p → Says (Means (Unit {0}) ⊥ (Both limit cube)) p → ((checked cube (answer_of budget q)).found ≡ found.Spent → ⊥) → SaysAs (checked cube (answer_of budget q)) p
  unfolding answer_of checked SaysAs
  says-as open_both h n = (refl, refl, refl)
  says-as (done_both {a = nothing}) h n = (refl, refl, refl)
  says-as (done_both {a = spent}) (says h) n = h
  says-as (done_both {a = refused}) (says h) n = h
  says-as (done_both {a = solved l} {s = s} {t = t}) (says h) n = go (is_home (apply_moves cube (list_of r))) (ap (λ (k : List ℕ). is_home (apply_moves cube k)) (lists-are budget s l) ∙ ap is_home h.arrives ∙ home-is)
    where
      r : Solution
      r = answer_of budget (done (solved l) s)

      go : (b : Bool) → b ≡ true → SaysAs (pick b r (no_lists (found.Refused refusal.LastCheck) r.count)) (done (solved l) t)
      go true e = (refl, take-padded l.0, take-padded l.1)
      go false e = let z : ◌≡◌ {A = ℕ} 0 1 = cc in absurd (omega arith)
  says-as (lost {a = spent} h) k n = absurd (n refl)
  says-as (lost {a = nothing} h) k n = absurd h
  says-as (lost {a = refused} h) k n = absurd h
  says-as (lost {a = solved l} h) k n = absurd h
