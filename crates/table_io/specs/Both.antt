-- Both blocks of tables at once: what is built, and whether it is good. Assumes nothing: these are definitions.
use Rattle.std.specs.Prelude.{◌≡◌, Bool, List, ℕ, eqb, length}
use Rattle.move_table.specs.Layout.{move_block}
use Rattle.table_calls.specs.Calls.{PrunesCall, CheckCall}

-- "Builder: lengths first (10)": over a block of 891,780 entries the pruning tables of the true move tables; over another, 10 and nothing written
pub record BuildCall (moves before after : List ℕ) (r : ℕ) : Type 0 where
  pub sized : length moves ≡ 891780 → PrunesCall move_block before after r
  pub other : (length moves ≡ 891780 → ⊥) → (r ≡ 10) × (after ≡ before)

-- "Table check: passes exactly when all ten are true": whether the check gives 0
abbrev pub GoodCall : List ℕ → List ℕ → Bool → Type 0
GoodCall moves prunes r = (n : ℕ) × CheckCall moves prunes n × (r ≡ eqb n 0)
