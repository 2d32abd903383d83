-- `search::inner::search` meets its contract: at the head of the loop, what is left of the lengths answers as all of them did, and both paths are empty. The
-- measure is the lengths left. Assumes nothing.
use Prim.Native.Nat.{ℕ, ◌<◌, ◌≤◌}
use mathlib.Core.Path.{◌≡◌, refl, sym, ap, subst, ◌∙◌}
use mathlib.Core.List.{List}
use native.Mathlib.Nat.{le_trans, lt_of_le_of_lt, zero-add}
use native.Mathlib.Omega.{arith}
use Rattle.base.specs.Search.{Res, left_of}
use Rattle.base.proofs.Search.{deepen-end, deepen-open, deepen-done}
use Rattle.cubie.specs.Cube.{refusal_of}
use Rattle.cubie.specs.declared.CubieCube.{CubieCube}
use Rattle.phase2_steps.specs.Rules.{Ans}
use Rattle.phase2_steps.specs.Paths.{Holds}
use Rattle.phase2_steps.proofs.Facts.{word-open, word-ended}
use Rattle.phase2_steps.proofs.Path.{holds-none}
use Rattle.phase1_steps.proofs.Found.{open1, via1, enter1-spends}
use Rattle.search.specs.Solve.{answer_of}
use Rattle.search.proofs.Answered.{runs-all}
use Rattle.search.proofs.Words.{made-fits, no-moves}
use Rattle.search.proofs.inner.search.Goals as goal

pub solve_phase1-r-requires : goal.solve_phase1-r-requires
solve_phase1-r-requires c =
    let p = c.requires in
    let l = c.loop-d in record { below = c.phase1_state-x.ensures.1.1; d_bound = (omega (arith, c.loop-d-test.true), p.2, subst (λ (q : CubieCube). refusal_of q ≡ 0) (sym c.bytes_of-bytes.ensures) p.0); holds = (subst (λ (q : List ℕ). Holds q 0) (sym l.invariant.1.1.0) holds-none, subst (λ (q : List ℕ). Holds q 0) (sym l.invariant.1.1.1.0) holds-none) }

pub read_word-requires : goal.read_word-requires
read_word-requires c =
    let l = c.loop-d in (
      c.if-r-ge-HIGH.true,
      made-fits c.args.budget _ _ _ c.solve_phase1-r.ensures.word (enter1-spends _ _ _ _ _ _ _ _ _) l.invariant.1.0 c.ranges.budget.fits,
      omega (arith, c.loop-d-test.true, c.requires.2),
    )

pub returns-then-r-ge-HIGH : goal.returns-then-r-ge-HIGH
returns-then-r-ge-HIGH c =
    let l = c.loop-d in
    let start = c.phase1_state-x.ensures in
    let g = c.solve_phase1-r.ensures in
    let small : c.args.budget < 4294967296 = c.ranges.budget.fits in
    let spends = le_trans (enter1-spends _ _ _ _ _ _ _ _ _) l.invariant.1.0 in
    let ended = word-ended (λ l. l.1) _ _ g.word (lt_of_le_of_lt spends small) c.if-r-ge-HIGH.true in
    let read = c.read_word.ensures _ _ _ spends (via1 refl (sym (zero-add _)) g) in record { value = read.0 ∙ ap (answer_of _) (ended.2 ∙ sym (l.invariant.1.1.1.1 ∙ deepen-done _ _ _ _ c.loop-d-test.true ended.2) ∙ runs-all _ _ _ _ c.bytes_of-bytes.ensures start.0 start.1.0); has_moves = read.1 }

pub loop-d-preserved : goal.loop-d-preserved
unfolding left_of
loop-d-preserved c =
    let l = c.loop-d in
    let still_Open = word-open (λ l. l.1) _ _ c.solve_phase1-r.ensures.word c.if-r-ge-HIGH.false in
    let both = open1 _ still_Open c.solve_phase1-r.ensures.paths in
    let spends = subst (λ (z : Res (Ans (List ℕ × List ℕ)) ℕ). left_of z ≤ l.rest) still_Open (enter1-spends _ _ _ _ _ _ _ _ _) in (
      omega (arith, c.loop-d-test.true),
      (
        le_trans spends l.invariant.1.0,
        (
          both.0 ∙ l.invariant.1.1.0,
          (both.1 ∙ l.invariant.1.1.1.0, l.invariant.1.1.1.1 ∙ deepen-open _ _ _ _ c.loop-d-test.true still_Open),
        ),
      ),
    )

pub returns : goal.returns
unfolding answer_of
returns c = let start = c.phase1_state-x.ensures in record { value = c.no_lists.ensures ∙ ap (answer_of _) (sym (c.loop-d.invariant.1.1.1.1 ∙ deepen-end _ _ _ _ c.loop-d-test.false) ∙ runs-all _ _ _ _ c.bytes_of-bytes.ensures start.0 start.1.0); has_moves = no-moves _ _ c.no_lists.ensures }
