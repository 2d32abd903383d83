-- Pairs of coordinates, the pair after a move, walks, and the least number of moves. The pair (i, j) is the number i * n2 + j.
-- All but `next` and `held` is said over any `step : pair → move → pair` and any number k of moves. Assumes nothing: these are definitions.
use Rattle.std.specs.Prelude.{◌≡◌, Bool, ◌&&◌, List, [], ◌∷◌, ◌⊎◌, ℕ, zero, suc, ◌+◌, ◌*◌, ◌-◌, ◌/◌, ◌%◌, ◌≤◌, ◌<◌, leb, eqb, length, get_or}
use Rattle.base.specs.Lists.{Under, all_below, some_below}

-- "a neighbour is the pair after one of the table's moves", as two flat tables say it: row i, column m stands at i * k + m
unfoldable pub next : List ℕ → List ℕ → ℕ → ℕ → ℕ → ℕ → ℕ
next t1 t2 n2 k p m = get_or t1 (p / n2 * k + m) 0 * n2 + get_or t2 (p % n2 * k + m) 0

-- what a pruning table holds at a pair: 255 past its end
abbrev pub held : List ℕ → ℕ → ℕ
held tab p = get_or tab p 255

module _ (step : ℕ → ℕ → ℕ) where
  -- the pair after a list of moves, from p
  abbrev pub run : ℕ → List ℕ → ℕ
  run p [] = p
  run p (m ∷ ms) = run (step p m) ms

module _ (step : ℕ → ℕ → ℕ) (k : ℕ) where
  -- some d moves, each below k, lead from pair 0 to q: the last of them from p
  abbrev pub Walks : ℕ → ℕ → Type 0
  Walks zero q = q ≡ 0
  Walks (suc d) q = (p : ℕ) × (m : ℕ) × Walks d p × (m < k) × (step p m ≡ q)

  -- the same as a list: d moves, each below k, that lead from pair 0 to q
  pub record Leads (d q : ℕ) : Type 0 where
    pub moves : List ℕ
    pub count : length moves ≡ d
    pub below : Under k moves
    pub ends : run step 0 moves ≡ q

  -- d is "the least number of the table's moves from 0,0 to that pair", p
  pub record Least (p d : ℕ) : Type 0 where
    pub walk : Walks d p
    pub least : (e : ℕ) → Walks e p → d ≤ e

  -- "A pruning entry is true if it is the least number of the table's moves": each of n entries is
  abbrev pub IsTrue : (ℕ → ℕ) → ℕ → Type 0
  IsTrue dist n = (p : ℕ) → p < n → Least p (dist p)

  -- "any other entry v must be at least 1, have no neighbour below v - 1 and have one that holds v - 1"
  pub record Between (dist : ℕ → ℕ) (p : ℕ) : Type 0 where
    pub some : 1 ≤ dist p
    pub none_below : (m : ℕ) → m < k → dist p - 1 ≤ dist (step p m)
    pub one_holds : (m : ℕ) × (m < k) × (dist (step p m) ≡ dist p - 1)

  -- the rule of the table check at a pair: "0,0 must hold 0", and any other is as above
  abbrev pub Fine : (ℕ → ℕ) → ℕ → Type 0
  Fine dist zero = dist 0 ≡ 0
  Fine dist (suc p) = Between dist (suc p)

  -- the same rule as a test
  unfoldable pub is_fine : (ℕ → ℕ) → ℕ → Bool
  is_fine dist zero = eqb (dist 0) 0
  is_fine dist (suc p) =
      leb 1 (dist (suc p))
      && (all_below (λ m. leb (dist (suc p) - 1) (dist (step (suc p) m))) k && some_below (λ m. eqb (dist (step (suc p) m)) (dist (suc p) - 1)) k)

  -- v is p's least number of moves where that is at most d, or else 255: at d = 254, "such pairs hold 255, the others their distance"
  abbrev pub Known : ℕ → ℕ → ℕ → Type 0
  Known d p v = ((v ≤ d) × Least p v) ⊎ ((v ≡ 255) × ((e : ℕ) → e ≤ d → Walks e p → ⊥))
