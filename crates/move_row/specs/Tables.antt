-- The six move tables: which coordinate and which columns each has, and what a true entry is. Assumes nothing: these are definitions.
use Rattle.std.specs.Prelude.{◌≡◌, List, [], ◌∷◌, ◌++◌, map, ℕ, zero, suc, ◌*◌, ◌-◌, eqb, ltb, length, get_or, replicate, Option, Some, None}
use Rattle.std.specs.List.{range_with_len}
use Rattle.base.specs.Lists.{pick, range}
use Rattle.cubie.specs.Cube.{move_of, turn}
use Rattle.cubie.specs.declared.CubieCube.{CubieCube}
use Rattle.moves.specs.Moves.{all_moves, phase2_moves}
use Rattle.numbering.specs.Kinds.{Kind, co, eo, e_combo, cp, ud_ep, e_ep, coordinate, after}
use Rattle.move_row.specs.declared.MoveTable.{MoveTable}
use Rattle.move_row.specs.declared.MoveTable.TheVariants as table

-- "Flat, row after row": a row for each number of the coordinate, a column for each move
pub record Table : Type 0 where
  pub kind : Kind
  pub moves : List ℕ

-- "In this order: 0 co, 1 eo, 2 e_combo" with 18 columns, "3 cp, 4 ep, 5 e_ep" with 10; ep stands for ud_ep
abbrev pub table_at : ℕ → Table
table_at t =
    get_or
    (record { kind = co; moves = all_moves } ∷ record { kind = eo; moves = all_moves } ∷ record { kind = e_combo; moves = all_moves }
    ∷ record { kind = cp; moves = phase2_moves } ∷ record { kind = ud_ep; moves = phase2_moves } ∷ [])
    t (record { kind = e_ep; moves = phase2_moves })

-- the number of each
abbrev pub number : MoveTable → ℕ
number table.Co = 0
number table.Eo = 1
number table.ECombo = 2
number table.Cp = 3
number table.UdEp = 4
number table.EEp = 5

abbrev pub columns : Table → ℕ
columns t = length t.moves

abbrev pub size : Table → ℕ
size t = t.kind.count * columns t

-- "A move entry is true if it is the coordinate after that move": row i, column j
unfoldable pub true_entry : Table → ℕ → ℕ → ℕ
true_entry t i j = after t.kind i (get_or t.moves j 0)

-- a row, and the whole table. Not abbrevs: they would be written out
unfoldable pub true_row : Table → ℕ → List ℕ
true_row t i = map (true_entry t i) (range 0 (columns t))

-- the arrangement of row i in twelve places, 0 at those that it hasn't
abbrev pub row_places : Kind → ℕ → List ℕ
row_places k i = k.arrangement i ++ replicate (12 - k.places) 0

-- n rows, from row i on
unfoldable pub rows_from : Table → ℕ → ℕ → List ℕ
rows_from t i zero = []
rows_from t i (suc n) = true_row t i ++ rows_from t (suc i) n

unfoldable pub true_table : Table → List ℕ
true_table t = rows_from t 0 t.kind.count

-- an arrangement that has a number
pub record Domain (k : Kind) (xs : List ℕ) : Type 0 where
  pub places : length xs ≡ k.places
  pub fits : k.refusal xs ≡ 0

-- the coordinate after move m of an arrangement, in a cube that is solved otherwise
abbrev pub moved : Kind → List ℕ → ℕ → ℕ
moved k xs m = coordinate k (turn (k.holding xs) m)

-- the first place at which the second list isn't as the first, or the length of the first
unfoldable pub first_off : List ℕ → List ℕ → ℕ
first_off [] ys = 0
first_off (x ∷ xs) [] = 0
first_off (x ∷ xs) (y ∷ ys) = pick (eqb x y) (suc (first_off xs ys)) 0

-- the same as an option: none where the second list is as the first
abbrev pub off_place : List ℕ → List ℕ → Option ℕ
off_place xs ys = pick (ltb (first_off xs ys) (length xs)) (Some (first_off xs ys)) None

-- the cubes of the 18 moves by their numbers
unfoldable pub move_cubes : List CubieCube
move_cubes = map move_of (range_with_len 0 18)
