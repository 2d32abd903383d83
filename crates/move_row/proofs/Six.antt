-- The six tables: a statement about each of them holds for every t below 6, and the number of each is below 6. Assumes nothing.
use mathlib.Core.Path.{◌≡◌, refl}
use mathlib.Core.List.{List, [], ◌∷◌}
use lib.ListN.{get_or}
use Prim.Native.Nat.{ℕ, zero, suc, ◌≤◌, ◌<◌}
use native.Mathlib.Omega.{arith}
use Rattle.moves.specs.Moves.{all_moves, phase2_moves}
use Rattle.move_row.specs.Tables.{number, table_at}
use Rattle.move_row.specs.declared.MoveTable.{MoveTable}
use Rattle.move_row.specs.declared.MoveTable.TheVariants as table

pub by-table : (P : ℕ → Type 0) → P 0 → P 1 → P 2 → P 3 → P 4 → P 5 → (t : ℕ) → t < 6 → P t
by-table P a b c d e f zero h = a
by-table P a b c d e f (suc zero) h = b
by-table P a b c d e f (suc (suc zero)) h = c
by-table P a b c d e f (suc (suc (suc zero))) h = d
by-table P a b c d e f (suc (suc (suc (suc zero)))) h = e
by-table P a b c d e f (suc (suc (suc (suc (suc zero))))) h = f
by-table P a b c d e f (suc (suc (suc (suc (suc (suc t)))))) h = absurd (omega arith)

-- the first three have a column for each of the 18 moves, the others for the ten of phase 2
pub first-moves : (t : ℕ) → t < 3 → (table_at t).moves ≡ all_moves
first-moves zero h = refl
first-moves (suc zero) h = refl
first-moves (suc (suc zero)) h = refl
first-moves (suc (suc (suc t))) h = absurd (omega arith)

pub second-moves : (t : ℕ) → t < 6 → 3 ≤ t → (table_at t).moves ≡ phase2_moves
second-moves =
    by-table (λ t. 3 ≤ t → (table_at t).moves ≡ phase2_moves) (λ h. absurd (omega arith)) (λ h. absurd (omega arith)) (λ h. absurd (omega arith)) (λ h. refl) (λ h. refl) (λ h. refl)

-- what is left when the numbers of some tables are ruled out
pub others-rows : (t : ℕ) → t < 6 → (t ≡ 0 → ⊥) → (t ≡ 1 → ⊥) → (t ≡ 2 → ⊥) → (t ≡ 5 → ⊥) → 40320 ≡ (table_at t).kind.count
others-rows =
    by-table (λ t. (t ≡ 0 → ⊥) → (t ≡ 1 → ⊥) → (t ≡ 2 → ⊥) → (t ≡ 5 → ⊥) → 40320 ≡ (table_at t).kind.count)
    (λ a b c d. absurd (a refl)) (λ a b c d. absurd (b refl)) (λ a b c d. absurd (c refl)) (λ a b c d. refl) (λ a b c d. refl) (λ a b c d. absurd (d refl))

pub others-places : (t : ℕ) → t < 6 → (t ≡ 0 → ⊥) → (t ≡ 3 → ⊥) → 12 ≡ (table_at t).kind.places
others-places =
    by-table (λ t. (t ≡ 0 → ⊥) → (t ≡ 3 → ⊥) → 12 ≡ (table_at t).kind.places) (λ a b. absurd (a refl)) (λ a b. refl) (λ a b. refl) (λ a b. absurd (b refl)) (λ a b. refl) (λ a b. refl)

pub the-sixth : (t : ℕ) → t < 6 → (t ≡ 0 → ⊥) → (t ≡ 1 → ⊥) → (t ≡ 2 → ⊥) → (t ≡ 3 → ⊥) → (t ≡ 4 → ⊥) → t ≡ 5
the-sixth t h a b c d e = omega arith

-- the number of a table is one of the six
pub number-lt : (t : MoveTable) → number t < 6
number-lt table.Co = omega arith
number-lt table.Eo = omega arith
number-lt table.ECombo = omega arith
number-lt table.Cp = omega arith
number-lt table.UdEp = omega arith
number-lt table.EEp = omega arith

-- the six in their order
abbrev pub six : List MoveTable
six = table.Co ∷ table.Eo ∷ table.ECombo ∷ table.Cp ∷ table.UdEp ∷ table.EEp ∷ []

pub six-number : (d : MoveTable) (i : ℕ) → i < 6 → number (get_or six i d) ≡ i
six-number d zero h = refl
six-number d (suc zero) h = refl
six-number d (suc (suc zero)) h = refl
six-number d (suc (suc (suc zero))) h = refl
six-number d (suc (suc (suc (suc zero)))) h = refl
six-number d (suc (suc (suc (suc (suc zero))))) h = refl
six-number d (suc (suc (suc (suc (suc (suc i)))))) h = absurd (omega arith)
