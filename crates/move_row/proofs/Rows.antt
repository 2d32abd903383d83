-- The arrangement of a row: it is in its table's domain, and in front of what the row's places hold. Assumes nothing.
use mathlib.Core.Path.{◌≡◌, ap, ◌∙◌}
use mathlib.Core.List.{List}
use Prim.Native.Nat.{ℕ, ◌-◌, ◌<◌}
use lib.ListN.{take, replicate}
use lib.Seq.{take_at}
use Rattle.numbering.specs.Kinds.{Kind, Numbered}
use Rattle.numbering.proofs.Numbers.{co-numbered, eo-numbered, e-combo-numbered, cp-numbered, ud-ep-numbered, e-ep-numbered}
use Rattle.move_row.specs.Tables.{table_at, Domain, row_places}
use Rattle.move_row.proofs.Six.{by-table}

-- the arrangement of a row is in its domain
in-domain : (k : Kind) → Numbered k → (i : ℕ) → i < k.count → Domain k (k.arrangement i)
in-domain k n i h = let b = n.back i h in record { places = b.0; fits = b.1 }

pub row-domain : (t i : ℕ) → t < 6 → i < (table_at t).kind.count → Domain (table_at t).kind ((table_at t).kind.arrangement i)
row-domain t i h =
    by-table (λ t. i < (table_at t).kind.count → Domain (table_at t).kind ((table_at t).kind.arrangement i)) (in-domain _ co-numbered i) (in-domain _ eo-numbered i) (in-domain _ e-combo-numbered i) (in-domain _ cp-numbered i) (in-domain _ ud-ep-numbered i) (in-domain _ e-ep-numbered i) t h

-- what a row's places hold in front is its arrangement
pub row-front : (t i : ℕ) → t < 6 → i < (table_at t).kind.count → (r : List ℕ) → r ≡ row_places (table_at t).kind i
    → take (table_at t).kind.places r ≡ (table_at t).kind.arrangement i
row-front t i h l r e =
    let k = (table_at t).kind in
    ap (take k.places) e ∙ take_at (k.arrangement i) (replicate (12 - k.places) 0) k.places (row-domain t i h l).places
