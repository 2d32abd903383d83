-- What the contract of the builder of all four comes to: it allows one result, and what it builds by the true move tables is true.
-- Assumes nothing.
use mathlib.Core.Path.{◌≡◌, refl, sym, ap, ap₂, subst, ◌∙◌}
use mathlib.Core.List.{List, ◌++◌}
use mathlib.Core.Logic.{inl, inr}
use Prim.Native.Nat.{ℕ, ◌+◌, ◌≤◌, ◌<◌}
use native.Mathlib.Omega.{arith}
use lib.ListN.{length, take, drop, take-append-drop, drop_of_length-le}
use lib.Seq.{take_at, take_all, drop_at, drop-drop}
use Rattle.move_table.specs.Layout.{move_block}
use Rattle.move_row.specs.Tables.{table_at, columns, true_table}
use Rattle.move_table.proofs.Rows.{table-length}
use Rattle.move_row.proofs.Six.{by-table}
use Rattle.pruning_table.specs.Block.{AllFilled, SomeMissing, AllOutcome}
use Rattle.pruning_table.specs.Check.{first_of, entries, part, step_of, Blocks, AllTrue}
use Rattle.pair_table.specs.Pairs.{held, Least, Known, IsTrue}
use Rattle.pair_table.specs.Answers.{Built}
use Rattle.pair_table.specs.declared.BuildError.TheVariants.{Length, Entry, Unreached}
use Rattle.std.proofs.Common.{Ok, Err}
use Rattle.pruning_table.proofs.Laws.{layer-one}
use Rattle.pruning_table.proofs.Ten.{prune-within, part_length, same_step}

-- ---- any two results are equal

-- two blocks from a on: the first n entries, and what stands behind them
from : (u v : List ℕ) (a n b : ℕ) → a + n ≡ b → take n (drop a u) ≡ take n (drop a v) → drop b u ≡ drop b v → drop a u ≡ drop a v
from u v a n b e p q =
    let at : (l : List ℕ) → drop n (drop a l) ≡ drop b l = λ l. drop-drop n a l ∙ ap (λ (x : ℕ). drop x l) e in
    sym (take-append-drop n (drop a u)) ∙ ap₂ ◌++◌ p (at u ∙ q ∙ sym (at v)) ∙ take-append-drop n (drop a v)

-- the four tables are the whole block
parts-one : (u v : List ℕ) → length u ≡ 4031685 → length v ≡ 4031685 → ((t : ℕ) → t < 10 → 6 ≤ t → part t u ≡ part t v) → u ≡ v
parts-one u v lu lv p =
    from u v 0 1082565 1082565 refl (p 6 (omega arith) (omega arith))
    (from u v 1082565 1013760 2096325 refl (p 7 (omega arith) (omega arith))
    (from u v 2096325 967680 3064005 refl (p 8 (omega arith) (omega arith))
    (from u v 3064005 967680 4031685 refl (p 9 (omega arith) (omega arith))
    (drop_of_length-le u {i = 4031685} (omega arith) ∙ sym (drop_of_length-le v {i = 4031685} (omega arith))))))

module _ (moves prunes : List ℕ) where
  -- the tables that are filled are one block
  filled-one : (u v : List ℕ) → Blocks moves prunes → length u ≡ length prunes → length v ≡ length prunes → AllFilled moves u → AllFilled moves v → u ≡ v
  filled-one u v w lu lv a b =
      parts-one u v (lu ∙ w.four) (lv ∙ w.four) (λ t h k.
      layer-one (step_of t moves) (columns (table_at (first_of t))) (entries t) (part t u) (part t v) (part_length t 4031685 u (lu ∙ w.four) (prune-within t h k))
      (part_length t 4031685 v (lv ∙ w.four) (prune-within t h k)) (a t h k) (b t h k))

  -- no block is both whole and not
  clash : (u v : List ℕ) → AllOutcome moves prunes u (Ok tt) → AllOutcome moves prunes v (Err Unreached) → ⊥
  clash u v a b = a.4 (subst SomeMissing (sym (filled-one u v a.0 a.2 b.2 a.3 b.3)) b.4)

  -- the builder of all four has one answer, and leaves one block
  pub all-outcome-one : (u v : List ℕ) (x y : Built) → AllOutcome moves prunes u x → AllOutcome moves prunes v y → (x ≡ y) × (u ≡ v)
  all-outcome-one u v (Err Length) (Err Length) a b = (refl, a.1 ∙ sym b.1)
  all-outcome-one u v (Err Length) (Err Entry) a b = absurd (a.0 b.0)
  all-outcome-one u v (Err Length) (Ok _) a b = absurd (a.0 b.0)
  all-outcome-one u v (Err Length) (Err Unreached) a b = absurd (a.0 b.0)
  all-outcome-one u v (Err Entry) (Err Length) a b = absurd (b.0 a.0)
  all-outcome-one u v (Err Entry) (Err Entry) a b = (refl, a.2 ∙ sym b.2)
  all-outcome-one u v (Err Entry) (Ok _) a b = absurd (a.1 b.1)
  all-outcome-one u v (Err Entry) (Err Unreached) a b = absurd (a.1 b.1)
  all-outcome-one u v (Ok _) (Err Length) a b = absurd (b.0 a.0)
  all-outcome-one u v (Ok _) (Err Entry) a b = absurd (b.1 a.1)
  all-outcome-one u v (Ok _) (Ok _) a b = (refl, filled-one u v a.0 a.2 b.2 a.3 b.3)
  all-outcome-one u v (Ok _) (Err Unreached) a b = absurd (clash u v a b)
  all-outcome-one u v (Err Unreached) (Err Length) a b = absurd (b.0 a.0)
  all-outcome-one u v (Err Unreached) (Err Entry) a b = absurd (b.1 a.1)
  all-outcome-one u v (Err Unreached) (Ok _) a b = absurd (clash v u b a)
  all-outcome-one u v (Err Unreached) (Err Unreached) a b = (refl, filled-one u v a.0 a.2 b.2 a.3 b.3)

-- ---- the parts of the true move tables' block

-- from list x on, what stands behind it; and x itself
onward : (w x r : List ℕ) (p n q : ℕ) → drop p w ≡ x ++ r → length x ≡ n → p + n ≡ q → drop q w ≡ r
onward w x r p n q e l s = ap (λ (k : ℕ). drop k w) (sym s) ∙ sym (drop-drop n p w) ∙ ap (drop n) e ∙ drop_at x r n l

here : (w x r : List ℕ) (p n : ℕ) → drop p w ≡ x ++ r → length x ≡ n → take n (drop p w) ≡ x
here w x r p n e l = ap (take n) e ∙ take_at x r n l

-- six lists, one behind the other
module _ (w a b c d e f : List ℕ) (is : w ≡ a ++ (b ++ (c ++ (d ++ (e ++ f))))) (la : length a ≡ 39366) (lb : length b ≡ 36864) (lc : length c ≡ 8910)
    (ld : length d ≡ 403200) (le : length e ≡ 403200) (lf : length f ≡ 240) where
  at1 : drop 39366 w ≡ b ++ (c ++ (d ++ (e ++ f)))
  at1 = onward w a (b ++ (c ++ (d ++ (e ++ f)))) 0 39366 39366 is la refl

  at2 : drop 76230 w ≡ c ++ (d ++ (e ++ f))
  at2 = onward w b (c ++ (d ++ (e ++ f))) 39366 36864 76230 at1 lb refl

  at3 : drop 85140 w ≡ d ++ (e ++ f)
  at3 = onward w c (d ++ (e ++ f)) 76230 8910 85140 at2 lc refl

  at4 : drop 488340 w ≡ e ++ f
  at4 = onward w d (e ++ f) 85140 403200 488340 at3 ld refl

  at5 : drop 891540 w ≡ f
  at5 = onward w e f 488340 403200 891540 at4 le refl

  six-parts : (take 39366 (drop 0 w) ≡ a) × (take 36864 (drop 39366 w) ≡ b) × (take 8910 (drop 76230 w) ≡ c) × (take 403200 (drop 85140 w) ≡ d)
      × (take 403200 (drop 488340 w) ≡ e) × (take 240 (drop 891540 w) ≡ f)
  six-parts = (
    here w a (b ++ (c ++ (d ++ (e ++ f)))) 0 39366 is la,
    here w b (c ++ (d ++ (e ++ f))) 39366 36864 at1 lb,
    here w c (d ++ (e ++ f)) 76230 8910 at2 lc,
    here w d (e ++ f) 85140 403200 at3 ld,
    here w e f 488340 403200 at4 le,
    ap (take 240) at5 ∙ take_all 240 f (omega (arith, lf)),
  )

abbrev T : ℕ → List ℕ
T t = true_table (table_at t)

block-is : move_block ≡ T 0 ++ (T 1 ++ (T 2 ++ (T 3 ++ (T 4 ++ T 5))))
unfolding move_block
block-is = refl

pub block-part : (t : ℕ) → t < 6 → part t move_block ≡ T t
block-part =
    let s =
    six-parts move_block (T 0) (T 1) (T 2) (T 3) (T 4) (T 5) block-is (table-length (table_at 0)) (table-length (table_at 1)) (table-length (table_at 2)) (table-length (table_at 3)) (table-length (table_at 4)) (table-length (table_at 5)) in
    by-table (λ t. part t move_block ≡ T t) s.0 s.1 s.2 s.3 s.4 s.5

-- ---- what the builders build is true

reached : (step : ℕ → ℕ → ℕ) (k p v : ℕ) → Known step k 254 p v → (v ≡ 255 → ⊥) → Least step k p v
reached step k p v (inl a) n = a.1
reached step k p v (inr a) n = absurd (n a.0)

module _ (moves prunes prunes' : List ℕ) (e : moves ≡ move_block) (o : AllOutcome moves prunes prunes' (Ok tt)) where
  lengths : Blocks moves prunes'
  lengths = record { six = o.0.six; four = o.2 ∙ o.0.four }

  true-tables : (t : ℕ) → t < 6 → part t moves ≡ T t
  true-tables t h = ap (part t) e ∙ block-part t h

  -- every pair has its least number of the lent tables' moves
  least-all : (t : ℕ) → t < 10 → 6 ≤ t → IsTrue (step_of t moves) (columns (table_at (first_of t))) (held (part t prunes')) (entries t)
  least-all t h k p l =
      let n : length (part t prunes') ≡ entries t = part_length t 4031685 prunes' lengths.four (prune-within t h k) in
      let i : p < length (part t prunes') = omega arith in
      reached (step_of t moves) (columns (table_at (first_of t))) p (held (part t prunes') p) (o.3 t h k p l) (λ v. o.4 (t, h, k, (p, i, v)))

  -- "all ten are true": the four tables that the builder made whole by what `get_move_tables` leaves
  pub built-all-true : AllTrue moves prunes'
  built-all-true =
      record {
        blocks = lengths;
        tables = true-tables;
        distances = λ t h k.
            subst (λ (s : ℕ → ℕ → ℕ). IsTrue s (columns (table_at (first_of t))) (held (part t prunes')) (entries t)) (same_step moves true-tables t h k) (least-all t h k);
      }
