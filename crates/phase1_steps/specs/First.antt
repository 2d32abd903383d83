-- Phase 1: a position as the code has it, its tables in the blocks, and the search; phase 2 is what happens at an end of it.
-- Assumes nothing: these are definitions.
use Rattle.std.specs.Prelude.{ℕ, ◌+◌, ◌-◌, ◌≡◌, Bool, true, false, ◌&&◌, List, [], length, ltb, leb, Option, Some, None}
use Rattle.base.specs.Search.{Res, still, done, Rules, branch, deepen, enter}
use Rattle.cubie.specs.Cube.{apply_moves}
use Rattle.cubie.specs.declared.CubieCube.{CubieCube}
use Rattle.numbering.specs.Kinds.{co, eo, e_combo, coordinate}
use Rattle.numbering.specs.declared.Co.{Co}
use Rattle.numbering.specs.declared.ECombo.{ECombo}
use Rattle.numbering.specs.declared.Eo.{Eo}
use Rattle.pruning_table.specs.Check.{part}
use Rattle.phase2_steps.specs.Rules.{Turns, Fars, Coords, At, at, Ans, solved, nothing, spent, refused, phase1, rules}
use Rattle.phase2_steps.specs.Paths.{Stored, word_of}
use Rattle.phase2_steps.specs.Second.{turns2, fars2, coords2, run2}
use Rattle.phase1_steps.specs.declared.Phase1State.{Phase1State}

-- tables 0, 1 and 2, and tables 6 and 7, in their blocks
unfoldable pub turns1 : List ℕ → Turns
turns1 m = record { ta = part 0 m; tb = part 1 m; tc = part 2 m }

unfoldable pub fars1 : List ℕ → Fars
fars1 p = record { pa = part 6 p; pb = part 7 p }

-- the coordinates of a position
abbrev pub of1 : Phase1State → Coords
of1 x = record { a = x.co.0; b = x.eo.0; c = x.e.0 }

-- the same, one by one
abbrev pub coords : Co → Eo → ECombo → Coords
coords co eo e = record { a = co.0; b = eo.0; c = e.0 }

-- the phase-1 coordinates of a cube
abbrev pub coords1 : CubieCube → Coords
coords1 c = record { a = coordinate co c; b = coordinate eo c; c = coordinate e_combo c }

-- what a turn by the move m answers: the test is whether the entries are below their counts
unfoldable pub turned1 : Bool → Coords → ℕ → Option Phase1State
turned1 true y m = Some (record { co = record { 0 = y.a }; eo = record { 0 = y.b }; e = record { 0 = y.c }; last = m })
turned1 false y m = None

-- an answer, with what it found put otherwise
unfoldable pub under : {L K S : Type 0} → (L → K) → Res (Ans L) S → Res (Ans K) S
under f (still s) = still s
under f (done (solved l) s) = done (solved (f l)) s
under f (done nothing s) = done nothing s
under f (done spent s) = done spent s
under f (done refused s) = done refused s

-- "A phase-1 end with n equal to the limit, n above 0"
abbrev pub full_of : ℕ → ℕ → Bool
full_of limit n = ltb 0 n && leb limit n

-- Such an end "ends everything with none"; else, "at a phase-1 end of length n, phase 2 runs over lengths 0 to limit - n - 1", from the cube
-- turned by the moves so far
unfoldable pub finish1 : Turns → Fars → CubieCube → ℕ → ℕ → List ℕ → ℕ → Res (Ans (List ℕ × List ℕ)) ℕ
finish1 t f cube limit last list s =
    branch (full_of limit (length list)) (done nothing)
    (λ s. under (λ l. (list, l)) (deepen (run2 t f (coords2 (apply_moves cube list)) last) 0 (limit - length list) s)) s

abbrev pub rules1 : Turns → Fars → Turns → Fars → CubieCube → ℕ → Rules (Ans (List ℕ × List ℕ)) ℕ ℕ At
rules1 t f t2 f2 cube limit = rules phase1 t f (λ x. finish1 t2 f2 cube limit x.last x.list)

-- one length of phase 1, from the coordinates c
abbrev pub run1 : Turns → Fars → Turns → Fars → CubieCube → ℕ → Coords → ℕ → ℕ → Res (Ans (List ℕ × List ℕ)) ℕ
run1 t f t2 f2 cube limit c d s = enter (rules1 t f t2 f2 cube limit) d (at c 18 []) s

-- "Phase-1 length runs from 0 to the limit": the whole search, from the coordinates c
unfoldable pub table_solve : Turns → Fars → Turns → Fars → CubieCube → ℕ → Coords → ℕ → Res (Ans (List ℕ × List ℕ)) ℕ
table_solve t f t2 f2 cube limit c s = deepen (run1 t f t2 f2 cube limit c) 0 (limit + 1) s

-- phase 1 over the two blocks
abbrev pub search1 : List ℕ → List ℕ → CubieCube → ℕ → Rules (Ans (List ℕ × List ℕ)) ℕ ℕ At
search1 m p cube limit = rules1 (turns1 m) (fars1 p) (turns2 m) (fars2 p) cube limit

-- what phase 1 leaves in the two paths; k: the moves of the first list, if solved
unfoldable pub Leaves1 : Res (Ans (List ℕ × List ℕ)) ℕ → ℕ → List ℕ → List ℕ → List ℕ → List ℕ → Type 0
Leaves1 (still s) k p₁ p₂ q₁ q₂ = (q₁ ≡ p₁) × (q₂ ≡ p₂)
Leaves1 (done (solved l) s) k p₁ p₂ q₁ q₂ = (length l.0 ≡ k) × (Stored l.0 q₁ × Stored l.1 q₂)
Leaves1 (done nothing s) k p₁ p₂ q₁ q₂ = Unit {0}
Leaves1 (done spent s) k p₁ p₂ q₁ q₂ = Unit {0}
Leaves1 (done refused s) k p₁ p₂ q₁ q₂ = Unit {0}

-- r is the word of the search s, and the paths are as it leaves them
pub record Gives1 (s : Res (Ans (List ℕ × List ℕ)) ℕ) (k r : ℕ) (p₁ p₂ q₁ q₂ : List ℕ) : Type 0 where
  pub word : r ≡ word_of (λ l. l.1) s
  pub paths : Leaves1 s k p₁ p₂ q₁ q₂
