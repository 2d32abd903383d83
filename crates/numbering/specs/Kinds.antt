-- The seven coordinates as values of one kind of record, so that a law about all of them is one statement. Assumes nothing: these are definitions.
use Rattle.std.specs.Prelude.{◌≡◌, true, List, ℕ, ◌<◌, length, get_or, take, replicate}
use Rattle.base.specs.Lists.{Under}
use Rattle.base.specs.Perm.{less}
use Rattle.cubie.specs.Cube.{InRange, solved_cube, turn}
use Rattle.cubie.specs.Solvable.{solvable}
use Rattle.cubie.specs.declared.CubieCube.{CubieCube}
use Rattle.numbering.specs.Coordinates.{co_refusal, eo_refusal, e_combo_refusal, cp_refusal, ud_ep_refusal, e_ep_refusal, ep_refusal}
use Rattle.numbering.specs.Coordinates.{co_number, eo_number, e_combo_number, cp_number, ud_ep_number, e_ep_number, ep_number}
use Rattle.numbering.specs.Coordinates.{co_of, eo_of, e_combo_of, cp_of, ud_ep_of, e_ep_of, ep_of}

pub record Kind : Type 0 where
  -- how many places its arrangement has, and how many numbers there are
  pub places : ℕ
  pub count : ℕ
  -- its arrangement in a cube, and the cube that has an arrangement and is solved otherwise
  pub part : CubieCube → List ℕ
  pub holding : List ℕ → CubieCube
  -- 0 inside the domain
  pub refusal : List ℕ → ℕ
  pub number : List ℕ → ℕ
  pub arrangement : ℕ → List ℕ

abbrev pub with_cp : List ℕ → CubieCube
with_cp xs = record { cp = xs; co = solved_cube.co; ep = solved_cube.ep; eo = solved_cube.eo }

abbrev pub with_co : List ℕ → CubieCube
with_co xs = record { cp = solved_cube.cp; co = xs; ep = solved_cube.ep; eo = solved_cube.eo }

abbrev pub with_ep : List ℕ → CubieCube
with_ep xs = record { cp = solved_cube.cp; co = solved_cube.co; ep = xs; eo = solved_cube.eo }

abbrev pub with_eo : List ℕ → CubieCube
with_eo xs = record { cp = solved_cube.cp; co = solved_cube.co; ep = solved_cube.ep; eo = xs }

-- "Counts: co 2,187; eo 2,048; e_combo 495; cp 40,320; ud_ep 40,320; e_ep 24; full ep 479,001,600"
abbrev pub co : Kind
co = record { places = 8; count = 2187; part = λ c. c.co; holding = with_co; refusal = co_refusal; number = co_number; arrangement = co_of }

abbrev pub eo : Kind
eo = record { places = 12; count = 2048; part = λ c. c.eo; holding = with_eo; refusal = eo_refusal; number = eo_number; arrangement = eo_of }

abbrev pub e_combo : Kind
e_combo =
    record {
      places = 12;
      count = 495;
      part = λ c. c.ep;
      holding = with_ep;
      refusal = e_combo_refusal;
      number = e_combo_number;
      arrangement = e_combo_of;
    }

abbrev pub cp : Kind
cp = record { places = 8; count = 40320; part = λ c. c.cp; holding = with_cp; refusal = cp_refusal; number = cp_number; arrangement = cp_of }

abbrev pub ud_ep : Kind
ud_ep = record { places = 12; count = 40320; part = λ c. c.ep; holding = with_ep; refusal = ud_ep_refusal; number = ud_ep_number; arrangement = ud_ep_of }

abbrev pub e_ep : Kind
e_ep = record { places = 12; count = 24; part = λ c. c.ep; holding = with_ep; refusal = e_ep_refusal; number = e_ep_number; arrangement = e_ep_of }

abbrev pub ep : Kind
ep = record { places = 12; count = 479001600; part = λ c. c.ep; holding = with_ep; refusal = ep_refusal; number = ep_number; arrangement = ep_of }

-- the coordinate of a cube
abbrev pub coordinate : Kind → CubieCube → ℕ
coordinate k c = k.number (k.part c)

-- the coordinate after a move of the arrangement of the number n: what a true table holds
abbrev pub after : Kind → ℕ → ℕ → ℕ
after k n m = coordinate k (turn (k.holding (k.arrangement n)) m)

-- ---- what the laws say of a kind

-- "Number to arrangement to number is the identity", the arrangement being in the domain; and every number is below its count
pub record Numbered (k : Kind) : Type 0 where
  pub back : (n : ℕ) → n < k.count → (length (k.arrangement n) ≡ k.places) × (k.refusal (k.arrangement n) ≡ 0) × (k.number (k.arrangement n) ≡ n)
  pub small : (xs : List ℕ) → length xs ≡ k.places → k.refusal xs ≡ 0 → k.number xs < k.count

-- the two lists are in the same order: "only the order inside the eight or four places" survives
abbrev pub SameOrder : List ℕ → List ℕ → Type 0
SameOrder xs ys =
    (length xs ≡ length ys) × ((i j : ℕ) → i < length xs → j < length xs → less (get_or xs i 0) (get_or xs j 0) ≡ less (get_or ys i 0) (get_or ys j 0))

-- phase 2's domain: no corner twisted, no edge flipped, the edges of the middle layer in it
pub record InPhase2 (c : CubieCube) : Type 0 where
  pub twists : c.co ≡ replicate 8 0
  pub flips : c.eo ≡ replicate 12 0
  pub middle : Under 4 (take 4 c.ep)

-- over these columns, for the cubes of a domain, the coordinate after a move is a function of the coordinate alone
abbrev pub Follows : Kind → List ℕ → (CubieCube → Type 0) → Type 0
Follows k moves Domain =
    (c : CubieCube) → InRange c → solvable c ≡ true → Domain c
    → (j : ℕ) → j < length moves → coordinate k (turn c (get_or moves j 0)) ≡ after k (coordinate k c) (get_or moves j 0)
