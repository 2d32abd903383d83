-- The cycle of calls {solve_phase1, step_phase1, walk_phase1}: one fact of Steps for each way that the code goes. Assumes nothing.
use Prim.Native.Nat.{ℕ, ◌<◌}
use mathlib.Core.Path.{refl, sym, ap, subst, ◌∙◌}
use mathlib.Core.List.{List}
use native.Mathlib.Nat.{lt_of_le_of_lt}
use native.Mathlib.Omega.{arith}
use lib.ListN.{length, set}
use Rattle.base.specs.Lists.{Under}
use Rattle.base.proofs.Search.{over-end}
use Rattle.base.proofs.Sets.{columns-none, columns-few, first-low, first-is}
use Rattle.columns.proofs.Columns.{phase1-column, open-under}
use Rattle.phase2_steps.specs.Rules.{phase1, Below}
use Rattle.phase2_steps.specs.Paths.{Holds, word_of}
use Rattle.phase2_steps.proofs.Facts.{word-open, word-ended}
use Rattle.phase2_steps.proofs.Path.{holds_more, popped}
use Rattle.phase2_steps.proofs.Steps.{spends, finishes, leaves, cuts, paid, same-cut, uncut, walks-open, cut-paid, refuses, passes, back-open, back_done}
use Rattle.phase1_steps.specs.First.{Leaves1}
use Rattle.phase1_steps.proofs.Found.{open1, gives1, via1, enter1-spends}
use Rattle.phase1.proofs.Found.{was-refused1, was-made1, made-below1, over1, again1}
use Rattle.phase1.proofs.inner.+solve_phase1_step_phase1_walk_phase1.Goals as goal

-- ---- an entry

pub solve_phase1-returns-then-left-eq0 : goal.solve_phase1-returns-then-left-eq0
unfolding word_of Leaves1
solve_phase1-returns-then-left-eq0 t c = gives1 (spends _ _ _ _ _ _ _ c.if-left-eq0.true) refl tt

pub solve_phase1-returns-then-is_solved : goal.solve_phase1-returns-then-is_solved
solve_phase1-returns-then-is_solved t c =
    via1 (finishes _ _ _ _ _ _ _ c.if-left-eq0.false c.if-d-eq0.true (sym c.is_solved.ensures ∙ c.if-is_solved.true)) (omega (arith, c.if-d-eq0.true)) c.end_phase1.ensures

pub solve_phase1-returns-then-d-eq0 : goal.solve_phase1-returns-then-d-eq0
unfolding word_of Leaves1
solve_phase1-returns-then-d-eq0 t c =
    gives1 (leaves _ _ _ _ _ _ _ c.if-left-eq0.false c.if-d-eq0.true (sym c.is_solved.ensures ∙ c.if-is_solved.false)) refl (refl, refl)

pub solve_phase1-returns-then-prune : goal.solve_phase1-returns-then-prune
unfolding word_of Leaves1
solve_phase1-returns-then-prune t c =
    gives1 (cuts _ _ _ _ _ _ _ c.if-left-eq0.false c.if-d-eq0.false (sym c.prune.ensures ∙ c.if-prune.true)) refl (refl, refl)

pub solve_phase1-step_phase1-requires : goal.solve_phase1-step_phase1-requires
solve_phase1-step_phase1-requires t c = (
  omega (arith, c.decreases, c.if-d-eq0.false),
  (c.requires.below, (c.requires.d_bound, (c.requires.holds, paid _ _ _ _ _ c.if-left-eq0.false c.if-d-eq0.false ∙ sym c.prune.ensures ∙ c.if-prune.false))),
)

-- ---- an entry that isn't cut at once

pub step_phase1-returns-then-left-eq0 : goal.step_phase1-returns-then-left-eq0
unfolding word_of Leaves1
step_phase1-returns-then-left-eq0 t c = gives1 (spends _ _ _ _ _ _ _ c.if-left-eq0.true) refl tt

pub step_phase1-walk_phase1-requires : goal.step_phase1-walk_phase1-requires
step_phase1-walk_phase1-requires t c =
    let few = columns-few c.phase1_open-on.result in (
      omega (arith, c.decreases, c.if-d-eq0.false, few),
      (
        (c.requires.below, subst (Under 18) (sym c.phase1_open-on.ensures) (open-under _ 18 _)),
        ((omega (arith, c.requires.d_bound.0, c.if-d-eq0.false), c.requires.d_bound.1, c.requires.d_bound.2), c.requires.holds),
      ),
    )

pub step_phase1-returns : goal.step_phase1-returns
step_phase1-returns t c =
    via1
    (walks-open _ _ _ _ phase1-column _ _ _ _ _ _ c.if-left-eq0.false c.if-d-eq0.false
    (uncut _ _ _ _ _ c.if-left-eq0.false c.if-d-eq0.false c.requires.left_value)
    c.phase1_open-on.ensures)
    (omega (arith, c.if-d-eq0.false))
    c.walk_phase1.ensures

-- ---- the columns that are left

pub walk_phase1-returns-then-set-eq0 : goal.walk_phase1-returns-then-set-eq0
unfolding word_of Leaves1
walk_phase1-returns-then-set-eq0 t c = gives1 (over-end _ _ _ _ _ (columns-none _ c.if-set-eq0.true)) refl (refl, refl)

pub walk_phase1-returns-in-None : goal.walk_phase1-returns-in-None
unfolding word_of Leaves1
walk_phase1-returns-in-None t c =
    let first = first-is c.first_column-j.ensures c.other_columns-on.ensures in
    let low = first-low first c.requires.below.1 in
    gives1 (refuses _ _ _ _ phase1-column _ _ _ _ first low.0 (was-refused1 _ _ _ (sym c.in-None.is ∙ c.next.ensures))) refl tt

pub walk_phase1-cut_at_once-requires-clause-below : goal.walk_phase1-cut_at_once-requires-clause-below
walk_phase1-cut_at_once-requires-clause-below t c = made-below1 _ _ _ (sym c.in-Some.is ∙ c.next.ensures)

pub walk_phase1-overflow_sub-s : goal.walk_phase1-overflow_sub-s
walk_phase1-overflow_sub-s t c = cut-paid _ _ _ _ _ (sym c.cut_at_once.ensures ∙ c.if-cut_at_once.true)

pub walk_phase1-returns-then-cut_at_once : goal.walk_phase1-returns-then-cut_at_once
walk_phase1-returns-then-cut_at_once t c =
    let first = first-is c.first_column-j.ensures c.other_columns-on.ensures in
    let low = first-low first c.requires.below.1 in
    let made = was-made1 _ _ _ _ (sym c.in-Some.is ∙ c.next.ensures) in
    via1 (passes _ _ _ _ phase1-column _ _ _ _ first low.0 made.0 made.1 (sym c.cut_at_once.ensures ∙ c.if-cut_at_once.true)) refl c.walk_phase1.ensures

pub walk_phase1-step_phase1-r-requires : goal.walk_phase1-step_phase1-r-requires
walk_phase1-step_phase1-r-requires t c =
    let first = first-is c.first_column-j.ensures c.other_columns-on.ensures in
    let low = first-low first c.requires.below.1 in
    let room : c.args.n < 31 = omega (arith, c.requires.d_bound.0, c.requires.d_bound.1) in
    let move = subst (λ (m : ℕ). m < 18) (sym c.phase1_move-m.ensures) (phase1-column _ low.0) in (
      omega (arith, c.decreases),
      (
        subst (Below phase1) (sym c.after-z.ensures.0) (made-below1 _ _ _ (sym c.in-Some.is ∙ c.next.ensures)),
        (
          (omega (arith, c.requires.d_bound.0), c.requires.d_bound.1, c.requires.d_bound.2),
          ((holds_more c.requires.holds.0 _ room move, c.requires.holds.1), same-cut _ _ _ _ _ c.after-z.ensures.0 (sym c.cut_at_once.ensures ∙ c.if-cut_at_once.false)),
        ),
      ),
    )

pub walk_phase1-returns-then-r-ge-HIGH : goal.walk_phase1-returns-then-r-ge-HIGH
walk_phase1-returns-then-r-ge-HIGH t c =
    let r = c.step_phase1-r in
    let first = first-is c.first_column-j.ensures c.other_columns-on.ensures in
    let low = first-low first c.requires.below.1 in
    let room : c.args.n < 31 = omega (arith, c.requires.d_bound.0, c.requires.d_bound.1) in
    let made = was-made1 _ _ _ _ (sym c.in-Some.is ∙ c.next.ensures) in
    let left : c.args.left < 4294967296 = c.ranges.left.fits in
    let ended = word-ended (λ l. l.1) _ _ r.ensures.word (lt_of_le_of_lt (enter1-spends _ _ _ _ _ _ _ _ _) left) c.if-r-ge-HIGH.true in
    let all = back_done _ _ _ _ phase1-column _ _ _ first low.0 c.requires.holds.0 room c.phase1_move-m.ensures made.0 (c.after-z.ensures.0 ∙ made.1) c.after-z.ensures.1 ended.2 in
    record { word = r.ensures.word ∙ ap (word_of (λ l. l.1)) (ended.2 ∙ sym all); paths = over1 _ _ _ _ _ _ _ _ ended.2 all (omega arith) r.ensures.paths }

pub walk_phase1-walk_phase1-requires-in-Some : goal.walk_phase1-walk_phase1-requires-in-Some
walk_phase1-walk_phase1-requires-in-Some t c =
    let r = c.step_phase1-r in
    let first = first-is c.first_column-j.ensures c.other_columns-on.ensures in
    let low = first-low first c.requires.below.1 in
    let room : c.args.n < 31 = omega (arith, c.requires.d_bound.0, c.requires.d_bound.1) in
    let still_open = word-open (λ l. l.1) _ _ r.ensures.word c.if-r-ge-HIGH.false in
    let both = open1 _ still_open r.ensures.paths in
    let same = ap (λ (p : List ℕ). set p c.args.n 0) both.0 ∙ popped c.requires.holds.0 _ room in (
      omega (arith, c.decreases, ap length first),
      (
        (c.requires.below.0, low.1),
        (
          c.requires.d_bound,
          (
            subst (λ (q : List ℕ). Holds q c.args.n) (sym same) c.requires.holds.0,
            subst (λ (q : List ℕ). Holds q 0) (sym both.1) c.requires.holds.1,
          ),
        ),
      ),
    )

pub walk_phase1-returns-in-Some : goal.walk_phase1-returns-in-Some
walk_phase1-returns-in-Some t c =
    let r = c.step_phase1-r in
    let first = first-is c.first_column-j.ensures c.other_columns-on.ensures in
    let low = first-low first c.requires.below.1 in
    let room : c.args.n < 31 = omega (arith, c.requires.d_bound.0, c.requires.d_bound.1) in
    let still_open = word-open (λ l. l.1) _ _ r.ensures.word c.if-r-ge-HIGH.false in
    let both = open1 _ still_open r.ensures.paths in
    let same = ap (λ (p : List ℕ). set p c.args.n 0) both.0 ∙ popped c.requires.holds.0 _ room in
    let made = was-made1 _ _ _ _ (sym c.in-Some.is ∙ c.next.ensures) in
    via1
    (back-open _ _ _ _ phase1-column _ _ _ first low.0 c.requires.holds.0 room c.phase1_move-m.ensures made.0 (c.after-z.ensures.0 ∙ made.1) c.after-z.ensures.1 still_open)
    refl
    (again1 _ _ _ _ c.args.n _ _ same both.1 c.walk_phase1-in-Some.ensures)
