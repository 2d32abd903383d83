-- One depth-first search, over rules: the list of moves, which of them may follow, the position after a move (or a refusal),
-- the ends, the positions that are left at once, what happens at an end, and the price of an entry.
-- Phase 1, phase 2 and the plain search are this search at three sets of rules. Assumes nothing: these are definitions.
use Rattle.std.specs.Prelude.{ℕ, zero, suc, ◌-◌, Bool, true, false, List, [], ◌∷◌}

-- how a part of a search came out: still open, or ended with an answer; with what is left of the budget
pub data Res (A S : Type 0) : Type 0 where
  still : S → Res A S
  done : A → S → Res A S

-- the position after a move, or an answer that ends the search
pub data Next (A X : Type 0) : Type 0 where
  refuse : A → Next A X
  to : X → Next A X

pub record Rules (A S M X : Type 0) : Type 0 where
  pub moves : List M
  pub avail : X → M → Bool
  pub next : X → M → Next A X
  pub ends : X → Bool
  pub cut : X → ℕ → Bool
  pub finish : X → S → Res A S
  pub pay : S → Res A S

module _ {A S : Type 0} where
  -- the rest is run if the search is still open
  unfoldable pub and_then : Res A S → (S → Res A S) → Res A S
  and_then (still s) k = k s
  and_then (done a s) k = done a s

  -- functions of the budget, so that antt computes only the branch that is taken
  unfoldable pub branch : Bool → (S → Res A S) → (S → Res A S) → S → Res A S
  branch true f g s = f s
  branch false f g s = g s

  -- a run at each of n lengths, from d on
  unfoldable pub deepen : (ℕ → S → Res A S) → ℕ → ℕ → S → Res A S
  deepen f d zero s = still s
  deepen f d (suc n) s = and_then (f d s) (λ t. deepen f (suc d) n t)

module _ {A S X : Type 0} where
  -- into the position after a move, and then the rest
  unfoldable pub through : Next A X → (X → S → Res A S) → (S → Res A S) → S → Res A S
  through (refuse a) f k s = done a s
  through (to x) f k s = and_then (f x s) k

module _ {A S M X : Type 0} where
  -- the moves ms at x, in order; f enters the position after one
  unfoldable pub walk : Rules A S M X → (X → S → Res A S) → X → List M → S → Res A S
  walk r f x [] s = still s
  walk r f x (m ∷ ms) s =
      branch (r.avail x m) (through (r.next x m) f (λ t. walk r f x ms t)) (λ t. walk r f x ms t) s

  -- an entry into x with d moves to go
  unfoldable pub enter : Rules A S M X → ℕ → X → S → Res A S
  enter r zero x s = and_then (r.pay s) (branch (r.ends x) (r.finish x) still)
  enter r (suc d) x s =
      and_then (r.pay s) (branch (r.cut x (suc d)) still (walk r (enter r d) x r.moves))

-- The plain search: every move goes to a position, nothing is cut, and entries cost nothing.
pub record Plain (A M Y : Type 0) : Type 0 where
  pub moves : List M
  pub avail : Y → M → Bool
  pub go : Y → M → Y
  pub ends : Y → Bool
  pub finish : Y → Unit {0} → Res A (Unit {0})

unfoldable pub plain : {A M Y : Type 0} → Plain A M Y → Rules A (Unit {0}) M Y
plain p =
    record {
      moves = p.moves;
      avail = p.avail;
      next = λ y m. to (p.go y m);
      ends = p.ends;
      cut = λ y d. false;
      finish = p.finish;
      pay = still;
    }

-- the moves ms at x, each with d moves to go after it
unfoldable pub walk_over : {A S M X : Type 0} → Rules A S M X → ℕ → X → List M → S → Res A S
walk_over r d x ms s = walk r (enter r d) x ms s

-- what is left of the lengths below n, from d on
unfoldable pub deepen_from : {A S : Type 0} → (ℕ → S → Res A S) → ℕ → ℕ → S → Res A S
deepen_from f n d s = deepen f d (n - d) s

-- what is left of the budget
unfoldable pub left_of : {A : Type 0} → Res A ℕ → ℕ
left_of (still s) = s
left_of (done a s) = s
