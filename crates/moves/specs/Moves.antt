-- The 18 moves of moves.rs by their numbers, as declared: U U2 U3 D D2 D3 R R2 R3 L L2 L3 F F2 F3 B B2 B3 are 0 to 17.
-- Assumes nothing: these are definitions.
use Rattle.std.specs.Prelude.{Bool, false, not, ◌&&◌, List, [], ◌∷◌, ℕ, ◌+◌, ◌-◌, ◌*◌, ◌/◌, ◌%◌, ltb, eqb, get_or}
use Rattle.base.specs.Lists.{pick, in_range, range}
use Rattle.base.specs.Sets.{keep}

-- a move number above 17 is 7
abbrev pub move_refusal : ℕ → ℕ
move_refusal m = pick (ltb m 18) 0 7

abbrev pub moves_refusal : List ℕ → ℕ
moves_refusal ms = pick (in_range 18 ms) 0 7

-- the layer that a move turns: U D R L F B are 0 to 5
abbrev pub layer_of : ℕ → ℕ
layer_of m = m / 3

-- `is_inverse`: U against D, R against L, F against B
unfoldable pub is_inverse : ℕ → ℕ → Bool
is_inverse m n =
    pick (eqb (layer_of m) 0) (eqb (layer_of n) 1)
    (pick (eqb (layer_of m) 2) (eqb (layer_of n) 3) (pick (eqb (layer_of m) 4) (eqb (layer_of n) 5) false))

-- `is_same_layer`
unfoldable pub is_same_layer : ℕ → ℕ → Bool
is_same_layer m n = eqb (layer_of m) (layer_of n)

-- `get_inverse`: one quarter turn against three, two against two
unfoldable pub inverse_move : ℕ → ℕ
inverse_move m = layer_of m * 3 + (2 - m % 3)

-- `is_move_available`: after a move, the same layer isn't available; nor is U after D, R after L, F after B
unfoldable pub is_available : ℕ → ℕ → Bool
is_available prev m = not (eqb m prev) && (not (is_inverse m prev) && not (is_same_layer m prev))

-- ALL_MOVES, its fifteenth entry mended: the move of each column of phase 1; B3 stands before B2
abbrev pub all_moves : List ℕ
all_moves = 0 ∷ 1 ∷ 2 ∷ 3 ∷ 4 ∷ 5 ∷ 6 ∷ 7 ∷ 8 ∷ 9 ∷ 10 ∷ 11 ∷ 12 ∷ 13 ∷ 14 ∷ 15 ∷ 17 ∷ 16 ∷ []

-- PHASE2_MOVES: U, U2, U3, D, D2, D3, R2, L2, F2, B2
abbrev pub phase2_moves : List ℕ
phase2_moves = 0 ∷ 1 ∷ 2 ∷ 3 ∷ 4 ∷ 5 ∷ 7 ∷ 10 ∷ 13 ∷ 16 ∷ []

-- the move of column j of phase 1's tables, and of phase 2's
abbrev pub phase1_move : ℕ → ℕ
phase1_move j = get_or all_moves j 0

abbrev pub phase2_move : ℕ → ℕ
phase2_move j = get_or phase2_moves j 0

-- the columns, of w whose moves are `name`, that may follow the move `last`, in order
unfoldable pub open_of : (ℕ → ℕ) → ℕ → ℕ → List ℕ
open_of name w last = keep (λ j. is_available last (name j)) (range 0 w)
