-- The refusals by their numbers, and an answer that is a value or a refusal. Assumes nothing: these are definitions.
use Rattle.std.specs.Prelude.{List, [], ◌∷◌, ℕ, ◌-◌, eqb, leb, get_or, Result, Ok, Err}
use Rattle.base.specs.Lists.{pick}
use Rattle.refusal.specs.declared.Refusal.{Refusal}
use Rattle.refusal.specs.declared.Refusal.TheVariants as refusal

-- the number of a refusal
abbrev pub number : Refusal → ℕ
number refusal.Stickers = 1
number refusal.Letter = 2
number refusal.Unsolvable = 3
number refusal.Corner = 4
number refusal.Edge = 5
number refusal.Range = 6
number refusal.Move = 7
number refusal.Index = 8
number refusal.Limit = 9
number refusal.Length = 10
number refusal.Entry = 11
number refusal.LastCheck = 12
number refusal.Table = 13
number refusal.Unreached = 14
number refusal.Picture = 15

-- all of them, in the order of their numbers
abbrev pub all : List Refusal
all =
    refusal.Stickers ∷ refusal.Letter ∷ refusal.Unsolvable ∷ refusal.Corner ∷ refusal.Edge ∷ refusal.Range ∷ refusal.Move ∷ refusal.Index
    ∷ refusal.Limit ∷ refusal.Length ∷ refusal.Entry ∷ refusal.LastCheck ∷ refusal.Table ∷ refusal.Unreached ∷ refusal.Picture ∷ []

-- the refusal of a number from 1 to 15
abbrev pub named : ℕ → Refusal
named n = get_or all (n - 1) refusal.Picture

-- the value, or the refusal of a number; 0 is none
abbrev pub answered : {A : Type 0} → ℕ → A → Result A Refusal
answered n a = pick (eqb n 0) (Ok a) (Err (named n))

-- no value, or the refusal of a number
abbrev pub checked : ℕ → Result (Unit {0}) Refusal
checked n = answered n tt

-- the number of what was refused, 0 for none
abbrev pub code : {A : Type 0} → Result A Refusal → ℕ
code (Ok a) = 0
code (Err r) = number r

-- what is left of what was there before: a refusal changes nothing
abbrev pub value_or : {A : Type 0} → A → Result A Refusal → A
value_or before (Ok a) = a
value_or before (Err r) = before

-- the lowest of two refusals
abbrev pub lowest : {A : Type 0} → Result A Refusal → Result A Refusal → Result A Refusal
lowest (Ok a) b = b
lowest (Err r) (Ok b) = Err r
lowest (Err r) (Err s) = pick (leb (number r) (number s)) (Err r) (Err s)
