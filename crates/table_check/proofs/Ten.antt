-- The check of all ten tables passes exactly when all ten are true, and so what the builders build; any two answers that it allows are equal.
-- Assumes nothing.
use mathlib.Core.Path.{◌≡◌, refl, sym, ap, ap₂, subst, ◌∙◌}
use mathlib.Core.List.{List}
use mathlib.Core.Logic.{◌↔◌, ⊎_elim}
use Prim.Native.Nat.{ℕ, ◌≤◌, ◌<◌}
use native.Mathlib.Nat.{le_antisymm, mul-pos}
use native.Mathlib.Omega.{arith}
use lib.ListN.{length, get_or}
use lib.Seq.{ext_get_or}
use Rattle.base.proofs.Perm.{less-cut}
use Rattle.move_table.specs.Layout.{move_block}
use Rattle.move_row.specs.Tables.{table_at, columns, true_table}
use Rattle.move_table.proofs.Rows.{table-length}
use Rattle.pruning_table.specs.Block.{AllOutcome}
use Rattle.pruning_table.specs.Check.{first_of, entries, part, Blocks, AllTrue}
use Rattle.pair_table.specs.Pairs.{held, IsTrue, Fine}
use Rattle.pruning_table.proofs.Four.{built-all-true}
use Rattle.pruning_table.proofs.Ten.{true_step, sound, closed_of, undone-of, move-within, prune-within, move-entries, part_length, same_step}
use Rattle.pair_table.proofs.Truth.{check-law}
use Rattle.table_check.specs.Check.{FineAt, Checks}
use Rattle.table_check.specs.Check.{Checked}
use Rattle.table_check.specs.declared.CheckError.TheVariants as check
use Rattle.std.proofs.Common.{Ok, Err}

abbrev T : ℕ → List ℕ
T t = true_table (table_at t)

-- over the true move tables the rule holds at every pair exactly where the table is true
right : (t : ℕ) → t < 10 → 6 ≤ t → (tab : List ℕ) → length tab ≡ entries t
    → ((p : ℕ) → p < entries t → Fine (true_step t) (columns (table_at (first_of t))) (held tab) p)
    ↔ IsTrue (true_step t) (columns (table_at (first_of t))) (held tab) (entries t)
right t h k tab l =
    let s = sound t h k in
    check-law (true_step t) (columns (table_at (first_of t))) (entries t)
    (subst (λ (n : ℕ). 0 < n) (sym s.pairs) (mul-pos s.counts.pos1 s.counts.pos2)) (closed_of t h k) (undone-of t h k) (held tab)

-- ---- the law

module _ (moves prunes : List ℕ) (b : Blocks moves prunes) where
  -- a move table is right at every entry exactly where it is true
  true-part : (t : ℕ) → t < 6 → ((e : ℕ) → e < entries t → FineAt moves prunes t e) → part t moves ≡ T t
  true-part t h f =
      let l : length (part t moves) ≡ entries t = part_length t 891780 moves b.six (move-within t h) in
      ext_get_or 0 (part t moves) (T t) (l ∙ move-entries t h ∙ sym (table-length (table_at t))) (λ e k. (f e (omega arith)).move h)

  all_true : ((t : ℕ) → t < 10 → (e : ℕ) → e < entries t → FineAt moves prunes t e) → AllTrue moves prunes
  all_true f =
      let tables : (t : ℕ) → t < 6 → part t moves ≡ T t = λ t h. true-part t h (f t (omega arith)) in
      record {
        blocks = b;
        tables = tables;
        distances = λ t h k.
            (right t h k (part t prunes) (part_length t 4031685 prunes b.four (prune-within t h k))).0
            (λ p l. subst (λ (s : ℕ → ℕ → ℕ). Fine s (columns (table_at (first_of t))) (held (part t prunes)) p) (same_step moves tables t h k) ((f t h p l).prune k));
      }

  true-fine : AllTrue moves prunes → (t : ℕ) → t < 10 → (e : ℕ) → e < entries t → FineAt moves prunes t e
  true-fine a t h e l =
      record {
        move = λ k. ap (λ (x : List ℕ). get_or x e 0) (a.tables t k);
        prune = λ k.
            subst (λ (s : ℕ → ℕ → ℕ). Fine s (columns (table_at (first_of t))) (held (part t prunes)) e) (sym (same_step moves a.tables t h k))
            ((right t h k (part t prunes) (part_length t 4031685 prunes b.four (prune-within t h k))).1 (a.distances t h k) e l);
      }

-- "passes exactly when all ten are true"
pub passes-exactly : (moves prunes : List ℕ) (r : Checked) → Checks moves prunes r → (r ≡ Ok tt) ↔ AllTrue moves prunes
passes-exactly moves prunes (Err check.Length) c = (λ e. let z : ◌≡◌ {A = ℕ} 0 1 = cc in absurd (omega arith), λ a. absurd (c a.blocks))
passes-exactly moves prunes (Ok _) c = (λ e. all_true moves prunes c.0 c.1, λ a. refl)
passes-exactly moves prunes (Err (check.Bad t e)) c =
    (λ g. let z : ◌≡◌ {A = ℕ} 0 1 = cc in absurd (omega arith), λ a. absurd (c.5 (true-fine moves prunes c.0 a t c.1 e c.2)))

-- any two answers are equal
pub checks-one : (moves prunes : List ℕ) (r s : Checked) → Checks moves prunes r → Checks moves prunes s → r ≡ s
checks-one moves prunes (Err check.Length) (Err check.Length) a b = refl
checks-one moves prunes (Err check.Length) (Ok _) a b = absurd (a b.0)
checks-one moves prunes (Err check.Length) (Err (check.Bad t e)) a b = absurd (a b.0)
checks-one moves prunes (Ok _) (Err check.Length) a b = absurd (b a.0)
checks-one moves prunes (Ok _) (Ok _) a b = refl
checks-one moves prunes (Ok _) (Err (check.Bad t e)) a b = absurd (b.5 (a.1 t b.1 e b.2))
checks-one moves prunes (Err (check.Bad t e)) (Err check.Length) a b = absurd (b a.0)
checks-one moves prunes (Err (check.Bad t e)) (Ok _) a b = absurd (a.5 (b.1 t a.1 e a.2))
checks-one moves prunes (Err (check.Bad t e)) (Err (check.Bad s d)) a b =
    let q : t ≡ s =
    ⊎_elim (λ u. absurd (a.5 (b.3 t u.0 e a.2)))
    (λ u. ⊎_elim (λ v. absurd (b.5 (a.3 s v.0 d b.2))) (λ v. le_antisymm v.0 u.0) (less-cut s t)) (less-cut t s) in
    let r : e ≡ d =
    ⊎_elim (λ u. absurd (a.5 (subst (λ (x : ℕ). FineAt moves prunes x e) (sym q) (b.4 e u.0))))
    (λ u. ⊎_elim (λ v. absurd (b.5 (subst (λ (x : ℕ). FineAt moves prunes x d) q (a.4 d v.0)))) (λ v. le_antisymm v.0 u.0) (less-cut d e)) (less-cut e d) in
    ap₂ (λ (x y : ℕ). Err (check.Bad x y)) q r

-- so it passes what the builder makes whole by what `get_move_tables` leaves
pub built-passes : (moves prunes prunes' : List ℕ) → moves ≡ move_block → AllOutcome moves prunes prunes' (Ok tt)
    → (r : Checked) → Checks moves prunes' r → r ≡ Ok tt
built-passes moves prunes prunes' e o r c = (passes-exactly moves prunes' r c).1 (built-all-true moves prunes prunes' e o)
