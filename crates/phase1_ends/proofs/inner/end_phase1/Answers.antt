-- `phase1_ends::inner::end_phase1` meets its contract: at the head of the loop, what is left of the lengths answers as all of them did, and the path is as
-- it came. The measure is the lengths left. Assumes nothing.
use Prim.Native.Nat.{◌≤◌}
use mathlib.Core.Path.{refl, sym, ap, ◌∙◌}
use native.Mathlib.Nat.{lt_of_le_of_lt}
use native.Mathlib.Omega.{arith}
use Rattle.base.proofs.Search.{deepen-end, deepen-open, deepen-done}
use Rattle.phase2_steps.specs.Paths.{word_of}
use Rattle.phase2_steps.proofs.Facts.{word-open, word-ended, open2}
use Rattle.phase2_steps.proofs.Steps.{enter2-spends}
use Rattle.phase1_steps.specs.First.{under, Leaves1}
use Rattle.phase1_steps.proofs.Ends.{finish-full, finish-runs, same_word, both_left}
use Rattle.phase1_steps.proofs.Found.{gives1}
use Rattle.phase1_ends.proofs.inner.end_phase1.Goals as goal

pub returns-then-full : goal.returns-then-full
unfolding word_of Leaves1
returns-then-full c = gives1 (finish-full _ _ _ _ _ c.requires.holds (omega (arith, c.requires.n_le_limit.0, c.requires.n_le_limit.1)) _ (sym c.full.ensures ∙ c.if-full.true)) refl tt

pub returns-then-r-ge-HIGH : goal.returns-then-r-ge-HIGH
returns-then-r-ge-HIGH c =
    let in-31 : c.args.n ≤ 31 = omega (arith, c.requires.n_le_limit.0, c.requires.n_le_limit.1) in
    let start = c.start_phase2-x.ensures in
    let ended = word-ended (λ l. l) _ _ c.solve_phase2-r.ensures.word (lt_of_le_of_lt (enter2-spends _ _ _ _ _) c.loop-d.invariant.1.0) c.if-r-ge-HIGH.true in
    gives1
    (finish-runs _ _ _ _ _ c.requires.holds in-31 _ start.0 start.1.0 (sym c.full.ensures ∙ c.if-full.false)
    ∙ ap (under _) (c.loop-d.invariant.1.1.1 ∙ deepen-done _ _ _ _ c.loop-d-test.true ended.2))
    (c.solve_phase2-r.ensures.word ∙ ap (word_of (λ l. l)) ended.2 ∙ same_word _ _ _)
    (both_left _ _ _ _ _ c.requires.holds in-31 ended.2 c.solve_phase2-r.ensures.path)

pub loop-d-preserved : goal.loop-d-preserved
loop-d-preserved c =
    let l = c.loop-d in
    let still_Open = word-open (λ l. l) _ _ c.solve_phase2-r.ensures.word c.if-r-ge-HIGH.false in (
      omega (arith, c.loop-d-test.true),
      (
        c.if-r-ge-HIGH.false,
        (
          open2 still_Open c.solve_phase2-r.ensures.path ∙ l.invariant.1.1.0,
          l.invariant.1.1.1 ∙ deepen-open _ _ _ _ c.loop-d-test.true still_Open,
        ),
      ),
    )

pub returns : goal.returns
unfolding word_of Leaves1 under
returns c =
    let in-31 : c.args.n ≤ 31 = omega (arith, c.requires.n_le_limit.0, c.requires.n_le_limit.1) in
    let start = c.start_phase2-x.ensures in
    gives1
    (finish-runs _ _ _ _ _ c.requires.holds in-31 _ start.0 start.1.0 (sym c.full.ensures ∙ c.if-full.false)
    ∙ ap (under _) (c.loop-d.invariant.1.1.1 ∙ deepen-end _ _ _ _ c.loop-d-test.false))
    refl
    (refl, c.loop-d.invariant.1.1.0)
