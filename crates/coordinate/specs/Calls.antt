-- The seven coordinates by their numbers, on lent memory: what a call returns, and what it leaves. Assumes nothing: these are definitions.
use Rattle.std.specs.Prelude.{Bool, ◌&&◌, List, [], ◌∷◌, ℕ, min, ltb, eqb, length, get_or}
use Rattle.base.specs.Lists.{pick}
use Rattle.numbering.specs.Kinds.{Kind, co, eo, e_combo, cp, ud_ep, e_ep, ep}

-- 0 co, 1 eo, 2 e_combo, 3 cp, 4 ud_ep, 5 e_ep, 6 ep
abbrev pub kind_at : ℕ → Kind
kind_at k = get_or (co ∷ eo ∷ e_combo ∷ cp ∷ ud_ep ∷ e_ep ∷ ep ∷ []) k ep

-- "lent slice of the wrong length": 8 places for co and cp, 12 for the others; a number above 6 is no coordinate's, so that no length fits
abbrev pub fits : ℕ → List ℕ → Bool
fits k places = ltb k 7 && eqb (length places) (kind_at k).places

-- a number of 32 bits in 16: 65535 stands for all above it
abbrev pub narrowed : ℕ → ℕ
narrowed n = min n 65535

-- ---- arrangement to number: the refusal, 0 for none, and the lent number after the call, which a refusal leaves as it was

abbrev pub index_number : ℕ → List ℕ → ℕ
index_number k places = pick (fits k places) ((kind_at k).refusal places) 10

abbrev pub index_left : ℕ → List ℕ → ℕ → ℕ
index_left k places before = pick (eqb (index_number k places) 0) ((kind_at k).number places) before

-- ---- number to arrangement: the refusal, and the lent places after the call

abbrev pub arrange_number : ℕ → ℕ → List ℕ → ℕ
arrange_number k n places = pick (fits k places) (pick (ltb n (kind_at k).count) 0 8) 10

abbrev pub arrange_left : ℕ → ℕ → List ℕ → List ℕ
arrange_left k n places = pick (eqb (arrange_number k n places) 0) ((kind_at k).arrangement n) places
