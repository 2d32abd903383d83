-- What a search for the lowest place at which a rule fails answers. Assumes nothing: these are definitions.
use Rattle.std.specs.Prelude.{ℕ, ◌<◌, Option, Some, None}

-- "the lowest bad .. entry": P holds at every number below n, or p is the lowest at which it fails
abbrev pub Tells : (ℕ → Type 0) → ℕ → Option ℕ → Type 0
Tells P n None = (p : ℕ) → p < n → P p
Tells P n (Some p) = (p < n) × ((q : ℕ) → q < p → P q) × (P p → ⊥)
