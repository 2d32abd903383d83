-- What the functions answer, and what they leave in the lent table. Assumes nothing: these are definitions.
use Rattle.std.specs.Prelude.{◌≡◌, Bool, true, false, List, ◌⊎◌, ℕ, ◌*◌, ◌≤◌, ◌<◌, length, Result, Ok, Err}
use Rattle.base.specs.Lists.{Under}
use Rattle.pair_table.specs.Pairs.{next, held, Least, Known}
use Rattle.pair_table.specs.Tables.{Counts, TableSizes, Ready}
use Rattle.pair_table.specs.declared.BuildError.{BuildError}
use Rattle.pair_table.specs.declared.BuildError.TheVariants.{Length, Entry, Unreached}

-- a bool that is the answer to the question whether P holds
abbrev pub Decides : Type 0 → Bool → Type 0
Decides P true = P
Decides P false = P → ⊥

-- "some pair has none of at most 254": some entry of a table is 255
abbrev pub Unreached255 : List ℕ → Type 0
Unreached255 tab = (p : ℕ) × (p < length tab) × (held tab p ≡ 255)

-- "Each pair gets its least distance from 0,0": those of n pairs that are within d moves have it
abbrev pub Layer : (ℕ → ℕ → ℕ) → ℕ → ℕ → ℕ → List ℕ → Type 0
Layer step k n d tab = (p : ℕ) → p < n → Known step k d p (held tab p)

-- v stood at q and v' stands there after the first m moves from p: a neighbour that held 255 holds d, and all else is as it was
abbrev pub ExpandedAt : (ℕ → ℕ → ℕ) → ℕ → ℕ → ℕ → ℕ → ℕ → ℕ → Type 0
ExpandedAt step p d m q v v' =
    ((v' ≡ v) × (v ≡ 255 → (m' : ℕ) → m' < m → step p m' ≡ q → ⊥))
    ⊎ ((v' ≡ d) × (v ≡ 255) × ((m' : ℕ) × (m' < m) × (step p m' ≡ q)))

-- the same of a whole table, before and after
abbrev pub Expanded : (ℕ → ℕ → ℕ) → ℕ → ℕ → ℕ → List ℕ → List ℕ → Type 0
Expanded step p d m tab tab' = (q : ℕ) → ExpandedAt step p d m q (held tab q) (held tab' q)

-- what a builder answers
abbrev pub Built : Type 0
Built = Result Unit BuildError

-- the paper's number for each answer of the builder, 0 where it built a whole table
abbrev pub number_of : Built → ℕ
number_of (Ok _) = 0
number_of (Err Length) = 10
number_of (Err Entry) = 11
number_of (Err Unreached) = 14

-- "Builder: lengths first (10) .. scanned first (11) .. if some pair has none of at most 254, the answer is 14"; "No refusal writes to lent memory except 14"
abbrev pub Outcome : List ℕ → List ℕ → ℕ → ℕ → ℕ → List ℕ → List ℕ → Built → Type 0
Outcome t1 t2 n1 n2 k tab tab' (Err Length) = (TableSizes t1 t2 tab n1 n2 k → ⊥) × (tab' ≡ tab)
Outcome t1 t2 n1 n2 k tab tab' (Err Entry) = TableSizes t1 t2 tab n1 n2 k × (Under n1 t1 × Under n2 t2 → ⊥) × (tab' ≡ tab)
Outcome t1 t2 n1 n2 k tab tab' (Ok _) =
    Ready t1 t2 tab n1 n2 k × (length tab' ≡ length tab)
    × ((p : ℕ) → p < n1 * n2 → (held tab' p ≤ 254) × Least (next t1 t2 n2 k) k p (held tab' p))
Outcome t1 t2 n1 n2 k tab tab' (Err Unreached) =
    Ready t1 t2 tab n1 n2 k × (length tab' ≡ length tab)
    × Layer (next t1 t2 n2 k) k (n1 * n2) 254 tab' × Unreached255 tab'

-- the same at any counts: of counts that no table has, no length is right, which is 10
abbrev pub AnyOutcome : List ℕ → List ℕ → ℕ → ℕ → ℕ → List ℕ → List ℕ → Built → Type 0
AnyOutcome t1 t2 n1 n2 k tab tab' r =
    (Counts n1 n2 k × Outcome t1 t2 n1 n2 k tab tab' r) ⊎ ((Counts n1 n2 k → ⊥) × (r ≡ Err Length) × (tab' ≡ tab))
