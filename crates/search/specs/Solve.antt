-- What the search answers, for all inputs. Assumes nothing: these are definitions.
use Rattle.std.specs.Prelude.{ℕ, ◌-◌, ◌≤◌, ◌≡◌, Bool, ◌&&◌, List, ◌++◌, leb, eqb, length, replicate, take, true, Result}
use Rattle.base.specs.Lists.{pick, Under}
use Rattle.base.specs.Search.{Res, still, done, left_of}
use Rattle.refusal.specs.declared.Refusal.{Refusal}
use Rattle.refusal.specs.declared.Refusal.TheVariants as refusal
use Rattle.refusal.specs.Refusals as refusals
use Rattle.pruning_table.specs.Check.{Blocks}
use Rattle.cubie.specs.Answers.{solvable_refusal}
use Rattle.cubie.specs.Cube.{refusal_of, apply_moves, is_home}
use Rattle.cubie.specs.Solvable.{solvable}
use Rattle.cubie.specs.declared.CubieCube.{CubieCube}
use Rattle.phase2_steps.specs.Rules.{Ans, solved, nothing, spent, refused}
use Rattle.phase2_steps.specs.Paths.{padded}
use Rattle.phase2_steps.specs.Second.{turns2, fars2}
use Rattle.phase1_steps.specs.First.{turns1, fars1, coords1, table_solve, Gives1}
use Rattle.search.specs.declared.Found.{Found}
use Rattle.search.specs.declared.Found.TheVariants as found
use Rattle.search.specs.declared.Solution.{Solution}

-- "All but solved carry empty lists; unused places are 0"
abbrev pub no_lists : Found → ℕ → Solution
no_lists f count = record { found = f; count = count; n1 = 0; phase1 = replicate 31 0; n2 = 0; phase2 = replicate 31 0 }

-- "The reported count is the entries made": what is gone from the budget. Nothing found at any length is none
unfoldable pub answer_of : ℕ → Res (Ans (List ℕ × List ℕ)) ℕ → Solution
answer_of budget (still s) = no_lists found.Nothing (budget - s)
answer_of budget (done nothing s) = no_lists found.Nothing (budget - s)
answer_of budget (done spent s) = no_lists found.Spent (budget - s)
answer_of budget (done refused s) = no_lists (found.Refused refusal.Entry) (budget - s)
answer_of budget (done (solved l) s) =
    record {
      found = found.Solved;
      count = budget - s;
      n1 = length l.0;
      phase1 = padded l.0;
      n2 = length l.1;
      phase2 = padded l.1;
    }

-- the moves of an answer
abbrev pub first_list : Solution → List ℕ
first_list s = take s.n1 s.phase1

abbrev pub second_list : Solution → List ℕ
second_list s = take s.n2 s.phase2

-- both lists stand in their arrays, and their elements are moves
pub record HasMoves (s : Solution) : Type 0 where
  pub one : Under 18 (first_list s)
  pub two : Under 18 (second_list s)
  pub n1 : s.n1 ≤ 31
  pub n2 : s.n2 ≤ 31

-- s is read off the word of a search that ended and off the two paths as it left them, whichever search it was; d: the moves of its first list, if solved
abbrev pub ReadOff : ℕ → ℕ → ℕ → List ℕ → List ℕ → Solution → Type 0
ReadOff budget word d one two s =
    (q : Res (Ans (List ℕ × List ℕ)) ℕ) (p₁ p₂ : List ℕ) → left_of q ≤ budget → Gives1 q d word p₁ p₂ one two → (s ≡ answer_of budget q) × HasMoves s

-- the moves, made on the cube one after the other, solve it
abbrev pub solves : CubieCube → List ℕ → Bool
solves cube moves = is_home (apply_moves cube moves)

-- "12 is given exactly when the first list so found doesn't solve the cube"
abbrev pub checked_by : CubieCube → Solution → Found → Solution
checked_by cube s found.Solved = pick (solves cube (first_list s ++ second_list s)) s (no_lists (found.Refused refusal.LastCheck) s.count)
checked_by cube s found.Nothing = s
checked_by cube s found.Spent = s
checked_by cube s (found.Refused r) = s

unfoldable pub checked : CubieCube → Solution → Solution
checked cube s = checked_by cube s s.found

-- the search over the two blocks, with its last check
abbrev pub searched : CubieCube → ℕ → ℕ → List ℕ → List ℕ → Solution
searched cube limit budget moves prunes =
    checked cube (answer_of budget (table_solve (turns1 moves) (fars1 prunes) (turns2 moves) (fars2 prunes) cube limit (coords1 cube) budget))

-- 4, 5 or 6 for a cube out of range, 6 for one that isn't solvable, 0 for one to search
abbrev pub search_refusal : CubieCube → ℕ
search_refusal = solvable_refusal

-- "Searching tests 9, then 10, then 4, 5, 6"
unfoldable pub before_search : CubieCube → ℕ → List ℕ → List ℕ → ℕ
before_search cube limit moves prunes =
    pick (leb limit 31) (pick (eqb (length moves) 891780 && eqb (length prunes) 4031685) (search_refusal cube) 10) 9

abbrev pub checked_search : CubieCube → ℕ → List ℕ → List ℕ → Result (Unit {0}) Refusal
checked_search cube limit moves prunes = refusals.checked (before_search cube limit moves prunes)

-- what is searched
pub record Searchable (cube : CubieCube) (limit : ℕ) (moves prunes : List ℕ) : Type 0 where
  pub range : refusal_of cube ≡ 0
  pub solvable : Rattle.cubie.specs.Solvable.solvable cube ≡ true
  pub few : limit ≤ 31
  pub blocks : Blocks moves prunes

-- "and 11 or 12 as the search meets them"; the count is "0 for refusals before the search"
unfoldable pub solve_of : CubieCube → ℕ → ℕ → List ℕ → List ℕ → Solution
solve_of cube limit budget moves prunes =
    pick (eqb (before_search cube limit moves prunes) 0) (searched cube limit budget moves prunes)
    (no_lists (found.Refused (refusals.named (before_search cube limit moves prunes))) 0)
