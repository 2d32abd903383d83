-- The check of all ten tables: what is right at an entry, and what the check answers. Assumes nothing: these are definitions.
use Rattle.std.specs.Prelude.{◌≡◌, Bool, ◌&&◌, List, ℕ, zero, suc, ◌≤◌, ◌<◌, ltb, eqb, length, get_or, Result, Ok, Err, Option, Some, None}
use Rattle.base.specs.Lists.{pick, first_false}
use Rattle.move_row.specs.Tables.{table_at, columns, true_table}
use Rattle.pruning_table.specs.Check.{first_of, entries, part, step_of, Blocks}
use Rattle.pair_table.specs.Pairs.{held, Fine, is_fine}
use Rattle.table_check.specs.declared.CheckError.{CheckError}
use Rattle.table_check.specs.declared.CheckError.TheVariants as check

-- ---- what is right at entry e of table t

-- "For a move table, bad means not true."
abbrev pub MoveFine : List ℕ → ℕ → ℕ → Type 0
MoveFine moves t e = get_or (part t moves) e 0 ≡ get_or (true_table (table_at t)) e 0

-- "For a pruning table .. 0,0 must hold 0; any other entry v must be at least 1, have no neighbour below v - 1 and have one that holds v - 1."
abbrev pub PruneFine : List ℕ → List ℕ → ℕ → ℕ → Type 0
PruneFine moves prunes t e = Fine (step_of t moves) (columns (table_at (first_of t))) (held (part t prunes)) e

pub record FineAt (moves prunes : List ℕ) (t e : ℕ) : Type 0 where
  pub move : t < 6 → MoveFine moves t e
  pub prune : 6 ≤ t → PruneFine moves prunes t e

-- ---- the answer

-- what the check answers
abbrev pub Checked : Type 0
Checked = Result Unit CheckError

-- what the check of table t says, by its lowest bad entry
abbrev pub told : ℕ → Option ℕ → Checked
told t None = Ok tt
told t (Some e) = Err (check.Bad t e)

-- of the tables from `low` up to `high` all are right, or t is the lowest that isn't, and e its lowest bad entry
abbrev pub ChecksIn : ℕ → ℕ → List ℕ → List ℕ → Checked → Type 0
ChecksIn low high moves prunes (Err check.Length) = ⊥
ChecksIn low high moves prunes (Ok _) = (t : ℕ) → low ≤ t → t < high → (e : ℕ) → e < entries t → FineAt moves prunes t e
ChecksIn low high moves prunes (Err (check.Bad t e)) =
    (low ≤ t) × (t < high) × (e < entries t)
    × ((s : ℕ) → low ≤ s → s < t → (d : ℕ) → d < entries s → FineAt moves prunes s d) × ((d : ℕ) → d < e → FineAt moves prunes t d)
    × (FineAt moves prunes t e → ⊥)

-- "Table check: 10, then 13", "with the lowest bad table and entry"
abbrev pub Checks : List ℕ → List ℕ → Checked → Type 0
Checks moves prunes (Err check.Length) = Blocks moves prunes → ⊥
Checks moves prunes (Ok _) = Blocks moves prunes × ((t : ℕ) → t < 10 → (e : ℕ) → e < entries t → FineAt moves prunes t e)
Checks moves prunes (Err (check.Bad t e)) =
    Blocks moves prunes × (t < 10) × (e < entries t)
    × ((s : ℕ) → s < t → (d : ℕ) → d < entries s → FineAt moves prunes s d) × ((d : ℕ) → d < e → FineAt moves prunes t d)
    × (FineAt moves prunes t e → ⊥)

-- ---- the same as a function

-- whether entry e of table t is right: "For a move table, bad means not true."; for a pruning table the rule that `is_fine` tests
unfoldable pub right_at : List ℕ → List ℕ → ℕ → ℕ → Bool
right_at moves prunes t e =
    pick (ltb t 6) (eqb (get_or (part t moves) e 0) (get_or (true_table (table_at t)) e 0))
    (is_fine (step_of t moves) (columns (table_at (first_of t))) (held (part t prunes)) e)

-- its lowest bad entry, or how many entries it has
abbrev pub bad_entry : List ℕ → List ℕ → ℕ → ℕ
bad_entry moves prunes t = first_false (right_at moves prunes t) 0 (entries t)

-- "with the lowest bad table and entry": of the n tables from t on
unfoldable pub check_from : List ℕ → List ℕ → ℕ → ℕ → Checked
check_from moves prunes t zero = Ok tt
check_from moves prunes t (suc n) =
    pick (ltb (bad_entry moves prunes t) (entries t)) (Err (check.Bad t (bad_entry moves prunes t))) (check_from moves prunes (suc t) n)

-- "Table check: 10, then 13"
unfoldable pub check_of : List ℕ → List ℕ → Checked
check_of moves prunes = pick (eqb (length moves) 891780 && eqb (length prunes) 4031685) (check_from moves prunes 0 10) (Err check.Length)

-- the paper's number for each answer
abbrev pub checked_number : Checked → ℕ
checked_number (Ok _) = 0
checked_number (Err check.Length) = 10
checked_number (Err (check.Bad t e)) = 13
