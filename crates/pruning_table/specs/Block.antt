-- What the builder of all four pruning tables answers, and what it leaves in their block. Assumes nothing: these are definitions.
use Rattle.std.specs.Prelude.{◌≡◌, List, ℕ, ◌≤◌, ◌<◌, length, Ok, Err}
use Rattle.base.specs.Lists.{Under}
use Rattle.move_row.specs.Tables.{table_at, columns}
use Rattle.pair_table.specs.Answers.{Built, Unreached255, Layer}
use Rattle.pruning_table.specs.Check.{first_of, rows, entries, part, step_of, Blocks}
use Rattle.pair_table.specs.declared.BuildError.TheVariants.{Length, Entry, Unreached}

-- the entries of the six lent move tables are below their counts
abbrev pub AllBelow : List ℕ → Type 0
AllBelow moves = (t : ℕ) → t < 6 → Under (rows t) (part t moves)

-- "Each pair gets its least distance from 0,0 by the lent move tables": those within 254 moves have it, the others hold 255
abbrev pub Filled : List ℕ → ℕ → List ℕ → Type 0
Filled moves t prunes = Layer (step_of t moves) (columns (table_at (first_of t))) (entries t) 254 (part t prunes)

-- some pair of table t has none of at most 254
abbrev pub Missing : ℕ → List ℕ → Type 0
Missing t prunes = Unreached255 (part t prunes)

-- table t is filled in its part of the block, and the others are as they were
pub record Refilled (moves : List ℕ) (t : ℕ) (prunes prunes' : List ℕ) : Type 0 where
  pub size : length prunes' ≡ length prunes
  pub filled : Filled moves t prunes'
  pub others : (s : ℕ) → s < 10 → 6 ≤ s → (s ≡ t → ⊥) → part s prunes' ≡ part s prunes

-- all four are filled; some pair of one of them is out of reach
abbrev pub AllFilled : List ℕ → List ℕ → Type 0
AllFilled moves prunes = (t : ℕ) → t < 10 → 6 ≤ t → Filled moves t prunes

abbrev pub SomeMissing : List ℕ → Type 0
SomeMissing prunes = (t : ℕ) × (t < 10) × (6 ≤ t) × Missing t prunes

-- "lengths first (10)", "scanned first (11)", of all six before anything is written; 14 if some pair of some table is out of reach
abbrev pub AllOutcome : List ℕ → List ℕ → List ℕ → Built → Type 0
AllOutcome moves prunes prunes' (Err Length) = (Blocks moves prunes → ⊥) × (prunes' ≡ prunes)
AllOutcome moves prunes prunes' (Err Entry) = Blocks moves prunes × (AllBelow moves → ⊥) × (prunes' ≡ prunes)
AllOutcome moves prunes prunes' (Ok _) =
    Blocks moves prunes × AllBelow moves × (length prunes' ≡ length prunes) × AllFilled moves prunes' × (SomeMissing prunes' → ⊥)
AllOutcome moves prunes prunes' (Err Unreached) =
    Blocks moves prunes × AllBelow moves × (length prunes' ≡ length prunes) × AllFilled moves prunes' × SomeMissing prunes'
