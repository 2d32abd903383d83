-- THE DEMAND about the budget: spent exactly when the search would enter more positions than the budget. Over any tables, true or not. Assumes nothing.
use Prim.Native.Nat.{ℕ, ◌<◌, ◌≤◌}
use mathlib.Core.Path.{◌≡◌, refl, sym, ap, subst⁻¹, ◌∙◌}
use mathlib.Core.Bool.{Bool, true, false, ◌&&◌}
use mathlib.Core.Logic.{◌↔◌, ◌⊎◌, ⊎_elim}
use mathlib.Core.List.{List}
use lib.Dec.{leb, eqb}
use lib.ListN.{length}
use native.Mathlib.Omega.{arith}
use Rattle.base.specs.Combo.{choose, combo_number}
use Rattle.base.specs.Lists.{pick, range}
use Rattle.base.specs.Perm.{less}
use Rattle.base.specs.Search.{left_of, and_then, branch, deepen, enter}
use Rattle.base.specs.Tally.{tallied}
use Rattle.cubie.specs.Cube.{InRange, solved_cube, apply_moves}
use Rattle.cubie.specs.Solvable.{solvable}
use Rattle.cubie.specs.declared.CubieCube.{CubieCube}
use Rattle.pruning_table.specs.Check.{Blocks}
use Rattle.phase2_steps.specs.Rules.{ends_of, rules}
use Rattle.phase2_steps.specs.Second.{finish2}
use Rattle.phase1_steps.specs.First.{under}
use Rattle.search.specs.Solve.{no_lists, searched, before_search, solve_of}
use Rattle.refusal.specs.declared.Refusal.{Refusal}
use Rattle.refusal.specs.Refusals.{named}
use Rattle.search.specs.declared.Found.TheVariants as found
use Rattle.search.specs.declared.Solution.{Solution}
use Rattle.demands.specs.Tally.{tally_finish1, tally_solve, tally_of}
use Rattle.demands.proofs.Solved.{is-searched}
use Rattle.demands.proofs.Tally.{refused-spent, Paid, Short, searched-told, searched-enough}

module _ (cube : CubieCube) (limit budget : ℕ) (moves prunes : List ℕ) where
  abbrev r : Solution
  r = solve_of cube limit budget moves prunes

  abbrev tally : ℕ
  tally = tally_of cube limit moves prunes

  -- ---- any tables, cube, limit and budget

  -- only what was searched is spent
  spent-searched : r.found ≡ found.Spent → r ≡ searched cube limit budget moves prunes
  unfolding solve_of
  spent-searched h = go (eqb (before_search cube limit moves prunes) 0) (searched cube limit budget moves prunes) (named (before_search cube limit moves prunes)) h
    where
      go : (p : Bool) (s : Solution) (q : Refusal) → (pick p s (no_lists (found.Refused q) 0)).found ≡ found.Spent → pick p s (no_lists (found.Refused q) 0) ≡ s
      go true s q e = refl
      go false s q e = absurd (refused-spent q e)

  is-short : r.found ≡ found.Spent → Short budget tally r
  is-short h =
      let e = spent-searched h in
      subst⁻¹ (Short budget tally) e
      (⊎_elim (λ p. absurd (p.other (ap (λ (s : Solution). s.found) (sym e) ∙ h))) (λ s. s) (searched-told cube limit moves prunes budget))

  -- spent: the search would enter more positions than the budget; the count is the budget, and there are no lists
  pub spent-more : r.found ≡ found.Spent → budget < tally
  spent-more h = (is-short h).more

  pub spent_all : r.found ≡ found.Spent → r ≡ no_lists found.Spent budget
  spent_all h = (is-short h).is

  pub spent-count : r.found ≡ found.Spent → r.count ≡ budget
  spent-count h = ap (λ (s : Solution). s.count) (spent_all h)

  -- ---- a solvable cube, limit 0 to 31, blocks of their lengths; any tables in them

  module _ (inside : InRange cube) (fair : solvable cube ≡ true) (most : limit ≤ 31) (blocks : Blocks moves prunes) where
    told : Paid budget tally r ⊎ Short budget tally r
    told = subst⁻¹ (λ (s : Solution). Paid budget tally s ⊎ Short budget tally s) (is-searched cube limit budget moves prunes inside fair most blocks) (searched-told cube limit moves prunes budget)

    -- demand 2: spent exactly when the search would enter more positions than the budget
    pub spent-exactly : (r.found ≡ found.Spent) ↔ (budget < tally)
    spent-exactly = (
      spent-more,
      λ l. ⊎_elim (λ p. absurd (omega (arith, p.enough, l))) (λ s. ap (λ (x : Solution). x.found) s.is) told,
    )

    -- any other answer, 11 and 12 among them, counts all that the search enters
    pub count-is-tally : (r.found ≡ found.Spent → ⊥) → r.count ≡ tally
    count-is-tally n = ⊎_elim (λ p. p.count) (λ s. absurd (n (ap (λ (x : Solution). x.found) s.is))) told

    -- a budget that is enough leaves no trace in the answer: found, count and lists are those of the least that is enough
    pub enough-same : tally ≤ budget → r ≡ solve_of cube limit tally moves prunes
    enough-same h =
        is-searched cube limit budget moves prunes inside fair most blocks
        ∙ searched-enough cube limit moves prunes budget h
        ∙ sym (is-searched cube limit tally moves prunes inside fair most blocks)

-- the paper's small cases, over any tables: the solved cube takes 1 entry at limit 0 and 2 at limit 1
pub small-tallies : (moves prunes : List ℕ) → (tally_of solved_cube 0 moves prunes ≡ 1) × (tally_of solved_cube 1 moves prunes ≡ 2)
unfolding tally_of tally_solve tally_finish1 tallied rules finish2 left_of and_then branch deepen enter under ends_of apply_moves solved_cube choose combo_number less range
small-tallies moves prunes = (refl, refl)
