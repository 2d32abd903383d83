-- What the test of a list tells of it. Assumes nothing.
use Rattle.std.proofs.Common.{rules, ◌≡◌, refl, Bool, true, false, List, ℕ, Ok, Err}
use Rattle.base.specs.Lists.{pick, in_range}
use Rattle.refusal.specs.declared.Refusal.{Refusal}
use Rattle.refusal.specs.declared.Refusal.TheVariants as refusal
use Rattle.refusal.specs.Refusals.{answered}
use Rattle.moves.specs.Moves.{moves_refusal}

-- a list that is refused has a number above 17
pub list-refused : {A : Type 0} (ms : List ℕ) (r : Refusal) (a : A) → answered (moves_refusal ms) a ≡ Err r → (in_range 18 ms ≡ false) × (r ≡ refusal.Move)
list-refused {A} ms r a e = go (in_range 18 ms) e
  where
    go : (b : Bool) → answered (pick b 0 7) a ≡ Err r → (b ≡ false) × (r ≡ refusal.Move)
    go true q = search rules
    go false q = (refl, search rules)

-- and one that is taken has none
pub list-taken : {A : Type 0} (ms : List ℕ) (a b : A) → answered (moves_refusal ms) a ≡ Ok b → (in_range 18 ms ≡ true) × (a ≡ b)
list-taken {A} ms a b e = go (in_range 18 ms) e
  where
    go : (d : Bool) → answered (pick d 0 7) a ≡ Ok b → (d ≡ true) × (a ≡ b)
    go true q = (refl, search rules)
    go false q = search rules
