-- What a table holds, and a bool that answers a question. Assumes nothing.
use mathlib.Core.Path.{◌≡◌, refl, sym, subst}
use mathlib.Core.Bool.{Bool, true, false}
use mathlib.Core.List.{List, [], ◌∷◌}
use Prim.Native.Nat.{ℕ, zero, suc, ◌<◌}
use native.Mathlib.Nat.{not-suc-le-zero, le_of_suc-le-suc}
use lib.Dec.{T}
use lib.ListN.{length, get_or}
use Rattle.pair_table.specs.Pairs.{held}
use Rattle.pair_table.specs.Answers.{Decides}

-- within a table, what a read gives is what the table holds
pub held_in : (l : List ℕ) (q a : ℕ) → q < length l → get_or l q a ≡ held l q
held_in [] q a h = absurd (not-suc-le-zero h)
held_in (x ∷ xs) zero a h = refl
held_in (x ∷ xs) (suc q) a h = held_in xs q a (le_of_suc-le-suc h)

-- a bool that decides P, made and taken apart
pub decides : {P : Type 0} (b : Bool) → (b ≡ true → P) → (b ≡ false → P → ⊥) → Decides P b
decides true yes' no' = yes' refl
decides false yes' no' = no' refl

pub yes_of : {P : Type 0} (b : Bool) → Decides P b → b ≡ true → P
yes_of true d e = d
yes_of false d e = let z : ◌≡◌ {A = Bool} false true = e in absurd (subst T (sym z) tt)

pub no_of : {P : Type 0} (b : Bool) → Decides P b → b ≡ false → P → ⊥
no_of true d e p = subst T e tt
no_of false d e p = d p
