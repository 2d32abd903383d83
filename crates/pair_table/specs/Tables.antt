-- Two move tables and their pruning table: sizes, entries, and moves that take others back. Assumes nothing: these are definitions.
use Rattle.std.specs.Prelude.{◌≡◌, List, ℕ, ◌+◌, ◌*◌, ◌≤◌, ◌<◌, length, get_or}
use Rattle.base.specs.Lists.{Under}

-- the counts n1 and n2 and the number k of moves: their products fit a usize, and there is a pair 0
pub record Counts (n1 n2 k : ℕ) : Type 0 where
  pub pos1 : 0 < n1
  pub pos2 : 0 < n2
  pub most1 : n1 ≤ 65536
  pub most2 : n2 ≤ 65536
  pub moves : k ≤ 256

-- two move tables of such counts: each is flat, row after row
pub record Fits (t1 t2 : List ℕ) (n1 n2 k : ℕ) : Type 0 where
  pub counts : Counts n1 n2 k
  pub first : length t1 ≡ n1 * k
  pub second : length t2 ≡ n2 * k

-- "lengths first (10)": each table is flat, row after row
pub record TableSizes (t1 t2 tab : List ℕ) (n1 n2 k : ℕ) : Type 0 where
  pub first : length t1 ≡ n1 * k
  pub second : length t2 ≡ n2 * k
  pub pairs : length tab ≡ n1 * n2

-- what the builder has tested before it writes: the lengths, and "both lent move tables are scanned first (11)"
pub record Ready (t1 t2 tab : List ℕ) (n1 n2 k : ℕ) : Type 0 where
  pub counts : Counts n1 n2 k
  pub sized : TableSizes t1 t2 tab n1 n2 k
  pub below1 : Under n1 t1
  pub below2 : Under n2 t2

-- move m' takes move m back, in both tables
pub record Inverse (t1 t2 : List ℕ) (n1 n2 k m m' : ℕ) : Type 0 where
  pub move : m' < k
  pub first : (i : ℕ) → i < n1 → get_or t1 (get_or t1 (i * k + m) 0 * k + m') 0 ≡ i
  pub second : (j : ℕ) → j < n2 → get_or t2 (get_or t2 (j * k + m) 0 * k + m') 0 ≡ j

-- each of the k moves is taken back by one of them
abbrev pub Inverses : List ℕ → List ℕ → ℕ → ℕ → ℕ → Type 0
Inverses t1 t2 n1 n2 k = (m : ℕ) → m < k → (m' : ℕ) × Inverse t1 t2 n1 n2 k m m'

module _ (step : ℕ → ℕ → ℕ) (k n : ℕ) where
  -- every step from a pair below n leads to one below n
  abbrev pub Closed : Type 0
  Closed = (p m : ℕ) → p < n → m < k → step p m < n

  -- every step from a pair below n is undone by a step
  abbrev pub Undone : Type 0
  Undone = (p m : ℕ) → p < n → m < k → (m' : ℕ) × (m' < k) × (step (step p m) m' ≡ p)
