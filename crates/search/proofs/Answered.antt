-- The public function, case by case: the tests of its inputs in their order, the whole search as its loop runs it, and the last check. Assumes nothing.
use Prim.Native.Nat.{ℕ, zero, ◌+◌, ◌<◌, ◌≤◌}
use mathlib.Core.Path.{◌≡◌, refl, sym, ap, ◌∙◌}
use mathlib.Core.Bool.{Bool, true, false, ◌&&◌, false≢true}
use mathlib.Core.List.{List, [], ◌++◌}
use lib.Dec.{leb, eqb}
use lib.ListN.{length}
use native.Mathlib.Nat.{sub-zero}
use native.Mathlib.Omega.{arith}
use borrow.Author.Tests.{le-leb, lt-leb, eq-eqb, ne_eqb, eqb-true}
use Rattle.base.specs.Lists.{pick}
use Rattle.base.specs.Search.{Res, deepen, deepen_from, enter}
use Rattle.cubie.specs.Answers.{solvable_refusal}
use Rattle.cubie.specs.Cube.{refusal_of}
use Rattle.cubie.specs.Solvable.{solvable}
use Rattle.cubie.specs.declared.CubieCube.{CubieCube}
use Rattle.phase2_steps.specs.Rules.{Coords, Ans, at}
use Rattle.phase2_steps.specs.Second.{turns2, fars2}
use Rattle.phase1_steps.specs.First.{turns1, fars1, coords1, search1, table_solve}
use Rattle.search.specs.Solve.{no_lists, first_list, second_list, solves, checked_by, checked, searched, search_refusal, before_search, checked_search, solve_of}
use Rattle.refusal.specs.declared.Refusal.{Refusal}
use Rattle.refusal.specs.declared.Refusal.TheVariants as refusal
use Rattle.refusal.specs.Refusals.{named}
use Rattle.refusal.proofs.Laws.{names, refuses}
use Rattle.std.proofs.Common.{Err}
use Rattle.search.specs.declared.Found.{Found}
use Rattle.search.specs.declared.Found.TheVariants as found
use Rattle.search.specs.declared.Solution.{Solution}

-- ---- the loop over the lengths

-- one length of phase 1, from the coordinates c, after the move k
abbrev pub run : List ℕ → List ℕ → CubieCube → ℕ → Coords → ℕ → ℕ → ℕ → Res (Ans (List ℕ × List ℕ)) ℕ
run m p cube limit c k d s = enter (search1 m p cube limit) d (at c k []) s

-- from the coordinates c of the cube b, after no move
pub runs-all : (m p : List ℕ) (limit budget : ℕ) {cube b : CubieCube} {c : Coords} {k : ℕ} → b ≡ cube → c ≡ coords1 cube → k ≡ 18
    → deepen_from (run m p b limit c k) (limit + 1) 0 budget ≡ table_solve (turns1 m) (fars1 p) (turns2 m) (fars2 p) cube limit (coords1 cube) budget
unfolding table_solve deepen_from
runs-all m p limit budget {cube} {b} {c} {k} e f g =
    ap (λ (n : ℕ). deepen (run m p b limit c k) 0 n budget) (sub-zero (limit + 1)) ∙ (λ i. deepen (run m p (e i) limit (f i) (g i)) 0 (limit + 1) budget)

-- ---- the refusal before the search

module _ (cube : CubieCube) where
  pub range-refused : (refusal_of cube ≡ 0 → ⊥) → search_refusal cube ≡ refusal_of cube
  unfolding solvable_refusal
  range-refused h = ap (λ (b : Bool). pick b (pick (solvable cube) 0 6) (refusal_of cube)) (ne_eqb (refusal_of cube) 0 h)

  pub solvable-refused : {b : Bool} → refusal_of cube ≡ 0 → solvable cube ≡ b → search_refusal cube ≡ pick b 0 6
  unfolding solvable_refusal
  solvable-refused h s = λ i. pick (eq-eqb (refusal_of cube) 0 h i) (pick (s i) 0 6) (refusal_of cube)

  pub to-search : search_refusal cube ≡ 0 → (refusal_of cube ≡ 0) × (solvable cube ≡ true)
  unfolding solvable_refusal
  to-search e = go (eqb (refusal_of cube) 0) (solvable cube) refl refl e
    where
      go : (a b : Bool) → eqb (refusal_of cube) 0 ≡ a → solvable cube ≡ b → pick a (pick b 0 6) (refusal_of cube) ≡ zero → (refusal_of cube ≡ 0) × (solvable cube ≡ true)
      go true true p q e = (eqb-true _ _ p, q)
      go true false p q e = absurd (omega (arith, e))
      go false b p q e = (e, absurd (false≢true (sym p ∙ eq-eqb _ _ e)))

-- ---- the tests before the search

module _ (cube : CubieCube) (limit : ℕ) (m p : List ℕ) where
  before-by : (a b c : Bool) → leb limit 31 ≡ a → eqb (length m) 891780 ≡ b → eqb (length p) 4031685 ≡ c → before_search cube limit m p ≡ pick a (pick (b && c) (search_refusal cube) 10) 9
  unfolding before_search
  before-by a b c e f g = λ i. pick (e i) (pick (f i && g i) (search_refusal cube) 10) 9

  pub over-limit : 31 < limit → before_search cube limit m p ≡ 9
  over-limit l = before-by false _ _ (lt-leb limit 31 l) refl refl

  module _ (l : limit ≤ 31) where
    pub other-moves : (length m ≡ 891780 → ⊥) → before_search cube limit m p ≡ 10
    other-moves e = before-by true false _ (le-leb limit 31 l) (ne_eqb _ _ e) refl

    module _ (e : length m ≡ 891780) where
      pub other-prunes : (length p ≡ 4031685 → ⊥) → before_search cube limit m p ≡ 10
      other-prunes f = before-by true true false (le-leb limit 31 l) (eq-eqb _ _ e) (ne_eqb _ _ f)

      pub of-the-cube : length p ≡ 4031685 → before_search cube limit m p ≡ search_refusal cube
      of-the-cube f = before-by true true true (le-leb limit 31 l) (eq-eqb _ _ e) (eq-eqb _ _ f)

-- ---- the public function

module _ (cube : CubieCube) (limit budget : ℕ) (m p : List ℕ) where
  pub solve-refuses : (r : Refusal) → checked_search cube limit m p ≡ Err r → solve_of cube limit budget m p ≡ no_lists (found.Refused r) 0
  unfolding solve_of
  solve-refuses r e =
      let n = names (before_search cube limit m p) r e in
      ap (λ (b : Bool). pick b (searched cube limit budget m p) (no_lists (found.Refused (named (before_search cube limit m p))) 0)) (ne_eqb _ _ n.0)
      ∙ ap (λ (q : Refusal). no_lists (found.Refused q) 0) n.1

  pub solve-limit : 31 < limit → solve_of cube limit budget m p ≡ no_lists (found.Refused refusal.Limit) 0
  solve-limit l = solve-refuses refusal.Limit (refuses _ 8 tt (over-limit cube limit m p l))

  module _ (l : limit ≤ 31) where
    pub solve-moves : (length m ≡ 891780 → ⊥) → solve_of cube limit budget m p ≡ no_lists (found.Refused refusal.Length) 0
    solve-moves e = solve-refuses refusal.Length (refuses _ 9 tt (other-moves cube limit m p l e))

    module _ (e : length m ≡ 891780) where
      pub solve-prunes : (length p ≡ 4031685 → ⊥) → solve_of cube limit budget m p ≡ no_lists (found.Refused refusal.Length) 0
      solve-prunes f = solve-refuses refusal.Length (refuses _ 9 tt (other-prunes cube limit m p l e f))

  pub solve-searches : before_search cube limit m p ≡ 0 → solve_of cube limit budget m p ≡ searched cube limit budget m p
  unfolding solve_of
  solve-searches e = ap (λ (b : Bool). pick b (searched cube limit budget m p) (no_lists (found.Refused (named (before_search cube limit m p))) 0)) (eq-eqb _ _ e)

-- ---- the last check

module _ (cube : CubieCube) (s : Solution) where
  pub check-solved : {b : Bool} → s.found ≡ found.Solved → solves cube (first_list s ++ second_list s) ≡ b → checked cube s ≡ pick b s (no_lists (found.Refused refusal.LastCheck) s.count)
  unfolding checked
  check-solved e f = ap (checked_by cube s) e ∙ ap (λ (b : Bool). pick b s (no_lists (found.Refused refusal.LastCheck) s.count)) f

  pub check-kept : (s.found ≡ found.Solved → ⊥) → checked cube s ≡ s
  unfolding checked
  check-kept h = go s.found h
    where
      go : (f : Found) → (f ≡ found.Solved → ⊥) → checked_by cube s f ≡ s
      go found.Solved h = absurd (h refl)
      go found.Nothing h = refl
      go found.Spent h = refl
      go (found.Refused n) h = refl
