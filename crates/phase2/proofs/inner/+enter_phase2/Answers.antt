-- The cycle of calls {enter_phase2}: one fact of Steps for each way that the code goes. Assumes nothing.
use Prim.Native.Nat.{ℕ, ◌-◌, ◌<◌}
use mathlib.Core.Path.{refl, sym, ap, subst, ◌∙◌}
use mathlib.Core.List.{List}
use native.Mathlib.Nat.{lt_of_le_of_lt}
use native.Mathlib.Omega.{arith}
use lib.ListN.{set}
use Rattle.base.specs.Lists.{Under}
use Rattle.base.proofs.Search.{over-end}
use Rattle.base.proofs.Sets.{columns-none, first-low, first-is}
use Rattle.columns.proofs.Columns.{phase2-column, open-under}
use Rattle.phase2_steps.specs.Rules.{phase2, Below}
use Rattle.phase2_steps.specs.Paths.{Holds, word_of}
use Rattle.phase2_steps.specs.Second.{finish2, Leaves2}
use Rattle.phase2_steps.proofs.Facts.{was-refused2, was-made2, made-below2, word-open, word-ended, over2, open2, gives2, solves2}
use Rattle.phase2_steps.proofs.Path.{holds_more, popped}
use Rattle.phase2_steps.proofs.Steps.{spends, finishes, leaves, same-cut, uncut, walks-open, cut-paid, refuses, passes, back-open, back_done, same-walk, enter2-spends}
use Rattle.phase2.proofs.inner.+enter_phase2.Goals as goal

pub returns-then-left-eq0 : goal.returns-then-left-eq0
unfolding word_of Leaves2
returns-then-left-eq0 t c = gives2 (spends _ _ _ _ _ _ _ c.if-left-eq0.true) refl tt

pub returns-then-is_solved : goal.returns-then-is_solved
unfolding finish2
returns-then-is_solved t c =
    let end = solves2 c.requires.holds (omega (arith, c.requires.d_bound)) (c.args.left - 1) in
    gives2 (finishes _ _ _ _ _ _ _ c.if-left-eq0.false c.if-d-eq0.true (sym c.is_solved.ensures ∙ c.if-is_solved.true)) end.0 end.1

pub returns-then-d-eq0 : goal.returns-then-d-eq0
unfolding word_of Leaves2
returns-then-d-eq0 t c =
    gives2 (leaves _ _ _ _ _ _ _ c.if-left-eq0.false c.if-d-eq0.true (sym c.is_solved.ensures ∙ c.if-is_solved.false)) refl refl

pub loop-set-init : goal.loop-set-init
loop-set-init t c =
    let low : c.args.left < 4294967296 = c.ranges.left.fits in
    record {
      under = subst (Under 10) (sym c.phase2_open-set.ensures) (open-under _ 10 _);
      rest_bound = omega (arith, low);
      path_same = refl;
      walk =
          walks-open _ _ _ _ phase2-column _ _ _ _ _ _ c.if-left-eq0.false c.if-d-eq0.false
          (uncut _ _ _ _ _ c.if-left-eq0.false c.if-d-eq0.false c.requires.left_value)
          c.phase2_open-set.ensures;
    }

pub returns-in-None : goal.returns-in-None
unfolding word_of Leaves2
returns-in-None t c =
    let first = first-is c.first_column-j.ensures c.other_columns-set.ensures in
    let low = first-low first c.loop-set.invariant.under in
    gives2 (c.loop-set.invariant.walk ∙ refuses _ _ _ _ phase2-column _ _ _ _ first low.0 (was-refused2 _ _ _ (sym c.in-None.is ∙ c.next.ensures))) refl tt

pub cut_at_once-requires-clause-below : goal.cut_at_once-requires-clause-below
cut_at_once-requires-clause-below t c = made-below2 _ _ _ (sym c.in-Some.is ∙ c.next.ensures)

pub overflow_sub-rest-then-cut_at_once : goal.overflow_sub-rest-then-cut_at_once
overflow_sub-rest-then-cut_at_once t c = cut-paid _ _ _ _ _ (sym c.cut_at_once.ensures ∙ c.if-cut_at_once.true)

pub loop-set-preserved-then-cut_at_once : goal.loop-set-preserved-then-cut_at_once
loop-set-preserved-then-cut_at_once t c =
    let inv = c.loop-set.invariant in
    let first = first-is c.first_column-j.ensures c.other_columns-set.ensures in
    let low = first-low first inv.under in
    let made = was-made2 _ _ _ _ (sym c.in-Some.is ∙ c.next.ensures) in
    let left = sym c.cut_at_once.ensures ∙ c.if-cut_at_once.true in
    record {
      under = low.1;
      rest_bound = omega (arith, inv.rest_bound);
      path_same = inv.path_same;
      walk = inv.walk ∙ passes _ _ _ _ phase2-column _ _ _ _ first low.0 made.0 made.1 left;
    }

pub enter_phase2-r-requires : goal.enter_phase2-r-requires
enter_phase2-r-requires t c =
    let first = first-is c.first_column-j.ensures c.other_columns-set.ensures in
    let low = first-low first c.loop-set.invariant.under in
    let hold : Holds c.loop-set.path c.args.n = subst (λ (p : List ℕ). Holds p c.args.n) (sym c.loop-set.invariant.path_same) c.requires.holds in
    let room : c.args.n < 31 = omega (arith, c.requires.d_bound, c.if-d-eq0.false) in
    let move = phase2-column _ low.0 in (
      omega (arith, c.decreases, c.if-d-eq0.false),
      (
        subst (Below phase2) (sym c.after.ensures.0) (made-below2 _ _ _ (sym c.in-Some.is ∙ c.next.ensures)),
        (
          omega (arith, c.requires.d_bound, c.if-d-eq0.false),
          (
            holds_more hold _ room (subst (λ (m : ℕ). m < 18) (sym c.phase2_move-m.ensures) move),
            same-cut _ _ _ _ _ c.after.ensures.0 (sym c.cut_at_once.ensures ∙ c.if-cut_at_once.false),
          ),
        ),
      ),
    )

pub returns-then-r-ge-HIGH : goal.returns-then-r-ge-HIGH
returns-then-r-ge-HIGH t c =
    let inv = c.loop-set.invariant in
    let r = c.enter_phase2-r in
    let first = first-is c.first_column-j.ensures c.other_columns-set.ensures in
    let low = first-low first inv.under in
    let hold : Holds c.loop-set.path c.args.n = subst (λ (p : List ℕ). Holds p c.args.n) (sym inv.path_same) c.requires.holds in
    let room : c.args.n < 31 = omega (arith, c.requires.d_bound, c.if-d-eq0.false) in
    let made = was-made2 _ _ _ _ (sym c.in-Some.is ∙ c.next.ensures) in
    let ended = word-ended (λ l. l) _ _ r.ensures.word (lt_of_le_of_lt (enter2-spends _ _ _ _ _) inv.rest_bound) c.if-r-ge-HIGH.true in
    let all = inv.walk ∙ back_done _ _ _ _ phase2-column _ _ _ first low.0 hold room c.phase2_move-m.ensures made.0 (c.after.ensures.0 ∙ made.1) c.after.ensures.1 ended.2 in
    record { word = r.ensures.word ∙ ap (word_of (λ l. l)) (ended.2 ∙ sym all); path = over2 _ _ _ ended.2 all r.ensures.path }

pub loop-set-preserved : goal.loop-set-preserved
loop-set-preserved t c =
    let inv = c.loop-set.invariant in
    let r = c.enter_phase2-r in
    let first = first-is c.first_column-j.ensures c.other_columns-set.ensures in
    let low = first-low first inv.under in
    let hold : Holds c.loop-set.path c.args.n = subst (λ (p : List ℕ). Holds p c.args.n) (sym inv.path_same) c.requires.holds in
    let room : c.args.n < 31 = omega (arith, c.requires.d_bound, c.if-d-eq0.false) in
    let made = was-made2 _ _ _ _ (sym c.in-Some.is ∙ c.next.ensures) in
    let still_open = word-open (λ l. l) _ _ r.ensures.word c.if-r-ge-HIGH.false in
    let same = ap (λ (p : List ℕ). set p c.args.n 0) (open2 still_open r.ensures.path) ∙ popped hold _ room in
    record {
      under = low.1;
      rest_bound = c.if-r-ge-HIGH.false;
      path_same = same ∙ inv.path_same;
      walk =
          inv.walk
          ∙ back-open _ _ _ _ phase2-column _ _ _ first low.0 hold room c.phase2_move-m.ensures made.0 (c.after.ensures.0 ∙ made.1) c.after.ensures.1 still_open
          ∙ same-walk _ _ _ _ c.args.n _ same refl;
    }

pub returns : goal.returns
unfolding word_of Leaves2
returns t c =
    let inv = c.loop-set.invariant in
    gives2 (inv.walk ∙ over-end _ _ _ _ _ (columns-none _ c.loop-set-test.false)) refl inv.path_same
