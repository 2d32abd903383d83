-- What the check of one table tells, and what the checks of several tell together. Assumes nothing.
use mathlib.Core.Path.{◌≡◌, refl, sym, ap, subst, subst₂, ◌∙◌}
use mathlib.Core.Bool.{Bool, true, false}
use mathlib.Core.List.{List, [], ◌∷◌}
use mathlib.Core.Logic.{⊎_elim}
use Prim.Native.Nat.{ℕ, zero, suc, ◌+◌, ◌-◌, ◌*◌, ◌≤◌, ◌<◌}
use native.Mathlib.Nat.{not-suc-le-zero, le_of_suc-le-suc, eq-or-lt_of_le}
use native.Mathlib.Omega.{arith}
use lib.Dec.{eqb}
use lib.ListN.{length, get_or, take, drop}
use borrow.Author.Tests.{eqb-true, eqb-false}
use Rattle.base.specs.Lists.{pick}
use Rattle.base.proofs.Perm.{less-cut}
use Rattle.move_row.specs.Tables.{table_at, columns, true_table, first_off, off_place}
use Rattle.move_table.proofs.Offs.{off-some, off-same}
use Rattle.move_table.proofs.Rows.{table-length}
use Rattle.pruning_table.specs.Check.{first_of, second_of, rows, entries, part, Blocks}
use Rattle.pair_table.specs.Pairs.{next, held, Fine}
use Rattle.pruning_table.proofs.Parts.{Spot, spot-len, slice1, slice2, slice}
use Rattle.pruning_table.proofs.Ten.{move-entries, move-within, part_length}
use Rattle.table_check.specs.Check.{MoveFine, PruneFine, FineAt, ChecksIn, Checks, told}
use Rattle.table_check.specs.declared.CheckError.{CheckError}
use Rattle.pair_check.specs.Rule.{Tells}
use Rattle.table_check.specs.Check.{Checked}
use Rattle.table_check.specs.declared.CheckError.TheVariants as check
use Rattle.std.proofs.Common.{Ok, Err, Option, Some, None}

-- ---- the first place at which two lists differ

off-before : (xs ys : List ℕ) → length xs ≡ length ys → (q : ℕ) → q < first_off xs ys → get_or ys q 0 ≡ get_or xs q 0
unfolding first_off
off-before [] ys l q h = absurd (not-suc-le-zero h)
off-before (x ∷ xs) [] l q h = absurd (not-suc-le-zero h)
off-before (x ∷ xs) (y ∷ ys) l q h = go (eqb x y) refl q h (off-before xs ys (omega arith))
  where
    go : (b : Bool) → eqb x y ≡ b → (q : ℕ) → q < pick b (suc (first_off xs ys)) 0 → ((q : ℕ) → q < first_off xs ys → get_or ys q 0 ≡ get_or xs q 0)
        → get_or (y ∷ ys) q 0 ≡ get_or (x ∷ xs) q 0
    go true e zero h ih = sym (eqb-true x y e)
    go true e (suc q) h ih = ih q (le_of_suc-le-suc h)
    go false e q h ih = absurd (not-suc-le-zero h)

off-there : (xs ys : List ℕ) → length xs ≡ length ys → first_off xs ys < length xs → get_or ys (first_off xs ys) 0 ≡ get_or xs (first_off xs ys) 0 → ⊥
unfolding first_off
off-there [] ys l h e = not-suc-le-zero h
off-there (x ∷ xs) [] l h e = absurd (omega arith)
off-there (x ∷ xs) (y ∷ ys) l h e = go (eqb x y) refl h e (off-there xs ys (omega arith))
  where
    go : (b : Bool) → eqb x y ≡ b → pick b (suc (first_off xs ys)) 0 < suc (length xs)
        → get_or (y ∷ ys) (pick b (suc (first_off xs ys)) 0) 0 ≡ get_or (x ∷ xs) (pick b (suc (first_off xs ys)) 0) 0
        → (first_off xs ys < length xs → get_or ys (first_off xs ys) 0 ≡ get_or xs (first_off xs ys) 0 → ⊥) → ⊥
    go true b h e ih = ih (le_of_suc-le-suc h) e
    go false b h e ih = eqb-false x y b (sym e)

-- ---- what the check of a move table tells

module _ (moves : List ℕ) (l : length moves ≡ 891780) (t : ℕ) (h : t < 6) where
  same_size : length (true_table (table_at t)) ≡ length (part t moves)
  same_size = table-length (table_at t) ∙ sym (move-entries t h) ∙ sym (part_length t 891780 moves l (move-within t h))

  whole-size : length (true_table (table_at t)) ≡ entries t
  whole-size = table-length (table_at t) ∙ sym (move-entries t h)

  pub move-tells : (r : Option ℕ) → r ≡ off_place (true_table (table_at t)) (part t moves) → Tells (MoveFine moves t) (entries t) r
  move-tells None is =
      let n = off-same (true_table (table_at t)) (part t moves) is refl in
      λ p g. off-before (true_table (table_at t)) (part t moves) same_size p (omega (arith, n, whole-size))
  move-tells (Some e) is =
      let o = off-some (true_table (table_at t)) (part t moves) is refl in (
        omega (arith, o.1, whole-size),
        λ q g. off-before (true_table (table_at t)) (part t moves) same_size q (omega (arith, o.0)),
        λ f. off-there (true_table (table_at t)) (part t moves) same_size (omega (arith, o.0, o.1)) (subst (λ (x : ℕ). MoveFine moves t x) o.0 f),
      )

-- ---- what the check of a pruning table tells

module _ {t a b k n1 n2 i j p : ℕ} (s : Spot t a b k n1 n2 i j p) (moves prunes : List ℕ) (w : Blocks moves prunes) where
  pub spot-tells : (r : Option ℕ)
      → Tells (Fine (next (take (i + n1 * k - i) (drop i moves)) (take (j + n2 * k - j) (drop j moves)) n2 k) k (held (take (p + n1 * n2 - p) (drop p prunes)))) (n1 * n2) r
      → Tells (PruneFine moves prunes t) (entries t) r
  spot-tells r h =
      subst (λ (n : ℕ). Tells (PruneFine moves prunes t) n r) (spot-len s)
      (subst₂ (λ (m c : ℕ). Tells (Fine (next (part (first_of t) moves) (part (second_of t) moves) m c) c (held (part t prunes))) (n1 * n2) r)
      (s.rows2 ∙ ap rows s.second) (s.columns-are ∙ ap (λ (x : ℕ). columns (table_at x)) s.first)
      (subst (λ (z : List ℕ). Tells (Fine (next (part (first_of t) moves) (part (second_of t) moves) n2 k) k (held z)) (n1 * n2) r) (slice s moves prunes w)
      (subst₂ (λ (x y : List ℕ). Tells (Fine (next x y n2 k) k (held (take (p + n1 * n2 - p) (drop p prunes)))) (n1 * n2) r) (slice1 s moves prunes w) (slice2 s moves prunes w) h)))

-- ---- table t by its own rule

tells-map : (P Q : ℕ → Type 0) → ((e : ℕ) → P e → Q e) → ((e : ℕ) → Q e → P e) → (n : ℕ) (r : Option ℕ) → Tells P n r → Tells Q n r
tells-map P Q f g n None h = λ p l. f p (h p l)
tells-map P Q f g n (Some e) h = (h.0, λ q l. f q (h.1 q l), λ x. h.2 (g e x))

module _ (moves prunes : List ℕ) (t : ℕ) where
  pub move-rule : t < 6 → (r : Option ℕ) → Tells (MoveFine moves t) (entries t) r → Tells (FineAt moves prunes t) (entries t) r
  move-rule h =
      tells-map (MoveFine moves t) (FineAt moves prunes t) (λ e f. record { move = λ l. f; prune = λ l. absurd (omega arith) }) (λ e f. f.move h) (entries t)

  pub prune-rule : 6 ≤ t → (r : Option ℕ) → Tells (PruneFine moves prunes t) (entries t) r → Tells (FineAt moves prunes t) (entries t) r
  prune-rule h =
      tells-map (PruneFine moves prunes t) (FineAt moves prunes t) (λ e f. record { move = λ l. absurd (omega arith); prune = λ l. f }) (λ e f. f.prune h) (entries t)

-- ---- one table after the other

-- the tables from `low` up to i are right, and r says where table t, which is the i-th, is not
module _ (moves prunes : List ℕ) (low high i t n : ℕ) (e : t ≡ i) (f : n ≡ t) (l : low ≤ i) (h : i < high) (before : ChecksIn low i moves prunes (Ok tt)) where
  -- table t is right too
  pub turn-good : (r : Option ℕ) → Tells (FineAt moves prunes t) (entries t) r → {v : Checked} {x : Unit {0}} → v ≡ told n r → v ≡ Ok x → ChecksIn low (i + 1) moves prunes (Ok tt)
  turn-good None w is ok = λ s k m d g.
      ⊎_elim (λ (a : s ≡ i). subst (λ (x : ℕ). d < entries x → FineAt moves prunes x d) (e ∙ sym a) (w d) g) (λ (b : s < i). before s k b d g)
      (eq-or-lt_of_le {n = s} {m = i} (omega arith))
  turn-good (Some p) w is ok = absurd (cc (is, ok))

  -- table t is the lowest that isn't right
  pub turn-bad : (r : Option ℕ) → Tells (FineAt moves prunes t) (entries t) r → {v : Checked} {x : CheckError} → v ≡ told n r → v ≡ Err x → ChecksIn low high moves prunes (Err x)
  turn-bad None w is bad = absurd (cc (is, bad))
  turn-bad (Some p) w {v} {x} is bad =
      let same : x ≡ check.Bad n p = cc (is, bad) in
      rw (same, f, e) (l, h, (rw e at w).0, before, (rw e at w).1, (rw e at w).2)

-- ---- the six and the four are all ten

module _ (moves prunes : List ℕ) (w : Blocks moves prunes) {r : Checked} where
  -- a bad move table is the lowest bad table
  pub bad-move : {x : CheckError} → r ≡ Err x → ChecksIn 0 6 moves prunes r → Checks moves prunes (Err x)
  bad-move {x} is g = go x (rw is at g)
    where
      go : (x : CheckError) → ChecksIn 0 6 moves prunes (Err x) → Checks moves prunes (Err x)
      go check.Length h = absurd h
      go (check.Bad t e) h = (w, omega (arith, h.1), h.2, λ s. h.3 s (omega arith), h.4, h.5)

  -- where the move tables are right, the pruning tables decide
  pub good-moves : {x : Unit {0}} → r ≡ Ok x → ChecksIn 0 6 moves prunes r → (a : Checked) → ChecksIn 6 10 moves prunes a → Checks moves prunes a
  good-moves {x} is g = go
    where
      join : (n : ℕ) → ChecksIn 6 n moves prunes (Ok tt) → (s : ℕ) → s < n → (d : ℕ) → d < entries s → FineAt moves prunes s d
      join n h s l = ⊎_elim (λ u. (rw is at g) s (omega arith) u.0) (λ u. h s u.0 l) (less-cut s 6)

      go : (a : Checked) → ChecksIn 6 10 moves prunes a → Checks moves prunes a
      go (Err check.Length) h = absurd h
      go (Ok _) h = (w, join 10 h)
      go (Err (check.Bad t e)) h = (w, h.1, h.2, join t h.3, h.4, h.5)
