-- The rules of both phases' search over tables, at a shape: how many moves and positions there are, and which move each column of a
-- table is. Assumes nothing: these are definitions.
use Rattle.std.specs.Prelude.{ℕ, zero, suc, ◌*◌, ◌<◌, max, ◌+◌, Bool, true, false, ◌&&◌, List, [], ◌∷◌, ◌++◌, get_or, ltb, eqb}
use Rattle.base.specs.Lists.{range}
use Rattle.base.specs.Search.{Res, still, done, Next, refuse, to, Rules}
use Rattle.moves.specs.Moves.{is_available, all_moves, phase2_moves}

-- "Answers: solved, with two lists; none; spent; or a refusal", which is 11; L: what was found
pub data Ans (L : Type 0) : Type 0 where
  solved : L → Ans L
  nothing : Ans L
  spent : Ans L
  refused : Ans L

-- w moves; na, nb and nc positions of the three coordinates; column j of a move table is the move `name j`
pub record Shape : Type 0 where
  pub w : ℕ
  pub na : ℕ
  pub nb : ℕ
  pub nc : ℕ
  pub name : ℕ → ℕ

abbrev pub phase1 : Shape
phase1 = record { w = 18; na = 2187; nb = 2048; nc = 495; name = λ j. get_or all_moves j 0 }

abbrev pub phase2 : Shape
phase2 = record { w = 10; na = 40320; nb = 40320; nc = 24; name = λ j. get_or phase2_moves j 0 }

-- the three move tables of a phase
pub record Turns : Type 0 where
  pub ta : List ℕ
  pub tb : List ℕ
  pub tc : List ℕ

-- its pruning tables, of the first and the third coordinate and of the second and the third
pub record Fars : Type 0 where
  pub pa : List ℕ
  pub pb : List ℕ

pub record Coords : Type 0 where
  pub a : ℕ
  pub b : ℕ
  pub c : ℕ

-- a position: its coordinates, the last move (18: none yet) and the moves so far
pub record At : Type 0 where
  pub at : Coords
  pub last : ℕ
  pub list : List ℕ

abbrev pub at : Coords → ℕ → List ℕ → At
at y last list = record { at = y; last = last; list = list }

-- the coordinates are below their counts
pub record Below (sh : Shape) (x : Coords) : Type 0 where
  pub a : x.a < sh.na
  pub b : x.b < sh.nb
  pub c : x.c < sh.nc

-- the same as a test
unfoldable pub below_of : Shape → Coords → Bool
below_of sh y = ltb y.a sh.na && (ltb y.b sh.nb && ltb y.c sh.nc)

-- "an end (no depth left, its three coordinates 0)"
unfoldable pub ends_of : Coords → Bool
ends_of x = eqb x.a 0 && (eqb x.b 0 && eqb x.c 0)

-- "the larger of its two pruning entries is above the depth still to go"
unfoldable pub cut_of : Shape → Fars → Coords → ℕ → Bool
cut_of sh f x d = ltb d (max (get_or f.pa (x.a * sh.nc + x.c) 0) (get_or f.pb (x.b * sh.nc + x.c) 0))

-- an entry with d moves to go that can be paid for out of s, is no end and is left at once
unfoldable pub cut_at_once : Shape → Fars → Coords → ℕ → ℕ → Bool
cut_at_once sh f x d s = ltb 0 s && (ltb 0 d && cut_of sh f x d)

-- "a move's three entries are read": what the move tables hold for column j
unfoldable pub go_of : Shape → Turns → Coords → ℕ → Coords
go_of sh t x j =
    record { a = get_or t.ta (x.a * sh.w + j) 0; b = get_or t.tb (x.b * sh.w + j) 0; c = get_or t.tc (x.c * sh.w + j) 0 }

-- the move m was made, to y
abbrev pub moved : Coords → ℕ → List ℕ → At
moved y m list = record { at = y; last = m; list = list ++ (m ∷ []) }

module _ {L : Type 0} where
  -- "and 11 given": an entry of a move table that isn't below its coordinate's count
  unfoldable pub next_of : Bool → At → Next (Ans L) At
  next_of true y = to y
  next_of false y = refuse refused

  -- "Every entry costs one from the budget before anything else"; "spent .. if the search would make one entry more than the budget"
  unfoldable pub pay_of : ℕ → Res (Ans L) ℕ
  pay_of zero = done spent 0
  pay_of (suc s) = still s

  -- "A position tries its moves in order", those that are available after the last one
  unfoldable pub rules : Shape → Turns → Fars → (At → ℕ → Res (Ans L) ℕ) → Rules (Ans L) ℕ ℕ At
  rules sh t f finish =
      record {
        moves = range 0 sh.w;
        avail = λ x j. is_available x.last (sh.name j);
        next = λ x j. next_of (below_of sh (go_of sh t x.at j)) (moved (go_of sh t x.at j) (sh.name j) x.list);
        ends = λ x. ends_of x.at;
        cut = λ x. cut_of sh f x.at;
        finish = finish;
        pay = pay_of;
      }
