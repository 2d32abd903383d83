-- Phase 2: a position as the code has it, its tables in the blocks, and the search. Assumes nothing: these are definitions.
use Rattle.std.specs.Prelude.{ℕ, ◌≡◌, Bool, true, false, List, [], Option, Some, None}
use Rattle.base.specs.Search.{Res, still, done, Rules, enter}
use Rattle.cubie.specs.declared.CubieCube.{CubieCube}
use Rattle.numbering.specs.Kinds.{cp, ud_ep, e_ep, coordinate}
use Rattle.pruning_table.specs.Check.{part}
use Rattle.phase2_steps.specs.Rules.{Turns, Fars, Coords, At, at, Ans, solved, nothing, spent, refused, phase2, rules}
use Rattle.phase2_steps.specs.Paths.{Stored, word_of}
use Rattle.phase2_steps.specs.declared.Phase2State.{Phase2State}

-- tables 3, 4 and 5, and tables 8 and 9, in their blocks
unfoldable pub turns2 : List ℕ → Turns
turns2 m = record { ta = part 3 m; tb = part 4 m; tc = part 5 m }

unfoldable pub fars2 : List ℕ → Fars
fars2 p = record { pa = part 8 p; pb = part 9 p }

-- the coordinates of a position
abbrev pub of2 : Phase2State → Coords
of2 x = record { a = x.cp.0; b = x.ep.0; c = x.e.0 }

-- the phase-2 coordinates of a cube
abbrev pub coords2 : CubieCube → Coords
coords2 c = record { a = coordinate cp c; b = coordinate ud_ep c; c = coordinate e_ep c }

-- what a turn by the move m answers: the test is whether the entries are below their counts
unfoldable pub turned2 : Bool → Coords → ℕ → Option Phase2State
turned2 true y m = Some (record { cp = record { 0 = y.a }; ep = record { 0 = y.b }; e = record { 0 = y.c }; last = m })
turned2 false y m = None

-- an end of phase 2 is the answer
unfoldable pub finish2 : At → ℕ → Res (Ans (List ℕ)) ℕ
finish2 x s = done (solved x.list) s

abbrev pub rules2 : Turns → Fars → Rules (Ans (List ℕ)) ℕ ℕ At
rules2 t f = rules phase2 t f finish2

-- "The first with the whole length": one length of phase 2, from the coordinates c, after the move `last`
abbrev pub run2 : Turns → Fars → Coords → ℕ → ℕ → ℕ → Res (Ans (List ℕ)) ℕ
run2 t f c last d s = enter (rules2 t f) d (at c last []) s

-- what phase 2 leaves in the path: as it was while open, the list if solved; no one reads it otherwise
unfoldable pub Leaves2 : Res (Ans (List ℕ)) ℕ → List ℕ → List ℕ → Type 0
Leaves2 (still s) p q = q ≡ p
Leaves2 (done (solved l) s) p q = Stored l q
Leaves2 (done nothing s) p q = Unit {0}
Leaves2 (done spent s) p q = Unit {0}
Leaves2 (done refused s) p q = Unit {0}

-- r is the word of the search s, and the path is as it leaves it
pub record Gives2 (s : Res (Ans (List ℕ)) ℕ) (r : ℕ) (p q : List ℕ) : Type 0 where
  pub word : r ≡ word_of (λ l. l) s
  pub path : Leaves2 s p q
