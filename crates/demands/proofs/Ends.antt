-- The ends of the two phases: an end of phase 1 is in phase 2's domain, which the moves of phase 2 keep and where only the solved cube is an end.
-- And each move has its column. Assumes nothing.
use Prim.Native.Nat.{ℕ, ◌<◌}
use mathlib.Core.Path.{◌≡◌, refl}
use mathlib.Core.Bool.{true, ◌&&◌}
use lib.Dec.{ltb, eqb}
use lib.ListN.{get_or}
use borrow.Author.Tests.{eqb-true, eq-eqb}
use Rattle.base.specs.Lists.{all_below}
use Rattle.base.proofs.Tests.{and-true, both_true, below_true}
use Rattle.cubie.specs.Cube.{InRange, solved_cube, turn}
use Rattle.cubie.specs.Solvable.{solvable}
use Rattle.cubie.specs.declared.CubieCube.{CubieCube}
use Rattle.cubie.proofs.Solvable.{turn-solvable, solved-solvable}
use Rattle.cubie.proofs.Turns.{turn-range, solved-range}
use Rattle.numbering.specs.Kinds.{InPhase2}
use Rattle.columns.proofs.Columns.{phase2-column}
use Rattle.numbering.proofs.Phases.{phase2-exactly, phase2-keeps, solved-exactly}
use Rattle.moves.specs.Moves.{all_moves}
use Rattle.phase2_steps.specs.Rules.{Coords, phase1, phase2, ends_of}
use Rattle.phase2_steps.specs.Second.{coords2}
use Rattle.phase1_steps.specs.First.{coords1}
use Rattle.demands.specs.Plain.{is_end1, is_end2}

-- a cube to search
pub record Good (c : CubieCube) : Type 0 where
  pub range : InRange c
  pub fair : solvable c ≡ true

pub good_turn : {c : CubieCube} → Good c → (m : ℕ) → m < 18 → Good (turn c m)
good_turn g m h = record { range = turn-range g.range m h; fair = turn-solvable g.range g.fair m h }

-- a cube of phase 2
pub record Inside (c : CubieCube) : Type 0 where
  pub good : Good c
  pub phase : InPhase2 c

pub inside-turn : {c : CubieCube} → Inside c → (j : ℕ) → j < 10 → Inside (turn c (phase2.name j))
inside-turn {c} i j h =
    record {
      good = good_turn i.good (phase2.name j) (phase2-column j h);
      phase = phase2-keeps c i.good.range i.good.fair i.phase j h;
    }

-- ---- the three coordinates are 0

pub ends-zero : (x : Coords) → ends_of x ≡ true → (x.a ≡ 0) × (x.b ≡ 0) × (x.c ≡ 0)
unfolding ends_of
ends-zero x e =
    let p = and-true (eqb x.a 0) _ e in
    let q = and-true (eqb x.b 0) _ p.1 in
    (eqb-true _ _ p.0, eqb-true _ _ q.0, eqb-true _ _ q.1)

zero-ends : (x : Coords) → x.a ≡ 0 → x.b ≡ 0 → x.c ≡ 0 → ends_of x ≡ true
unfolding ends_of
zero-ends x a b c = both_true (eq-eqb _ 0 a) (both_true (eq-eqb _ 0 b) (eq-eqb _ 0 c))

pub end1-inside : (c : CubieCube) → Good c → is_end1 c ≡ true → Inside c
unfolding is_end1
end1-inside c g e = let z = ends-zero (coords1 c) e in record { good = g; phase = (phase2-exactly c g.range g.fair).0 z }

pub only-home : (c : CubieCube) → Inside c → is_end2 c ≡ true → c ≡ solved_cube
unfolding is_end2
only-home c i e =
    let r = i.good.range in
    let s = i.good.fair in
    let y = (phase2-exactly c r s).1 i.phase in
    let z = ends-zero (coords2 c) e in
    (solved-exactly c r s).0 (y.0, y.1, y.2, z.0, z.1, z.2)

pub home_ends : (is_end1 solved_cube ≡ true) × (is_end2 solved_cube ≡ true)
unfolding is_end1 is_end2
home_ends =
    let z = (solved-exactly solved_cube solved-range solved-solvable).1 refl in
    (zero-ends (coords1 solved_cube) z.0 z.1 z.2, zero-ends (coords2 solved_cube) z.3 z.4 z.5)

-- ---- the columns of phase 1: that of the move m holds m

columns-fine : all_below (λ m. ltb (get_or all_moves m 0) 18 && eqb (get_or all_moves (get_or all_moves m 0) 0) m) 18 ≡ true
columns-fine = refl

pub column-back : (m : ℕ) → m < 18 → phase1.name (phase1.name m) ≡ m
column-back m h =
    eqb-true _ _ (and-true (ltb (get_or all_moves m 0) 18) _ (below_true (λ m. ltb (get_or all_moves m 0) 18 && eqb (get_or all_moves (get_or all_moves m 0) 0) m) 18 columns-fine m h)).1
