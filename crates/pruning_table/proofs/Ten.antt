-- The ten tables: each lies in its block, and the true move tables take each move back. Assumes nothing.
use mathlib.Core.Path.{◌≡◌, refl, sym, ap₂, subst}
use mathlib.Core.List.{List}
use mathlib.Core.Bool.{Bool, true, ◌&&◌}
use Prim.Native.Nat.{ℕ, zero, suc, ◌+◌, ◌*◌, ◌≤◌, ◌<◌}
use native.Mathlib.Omega.{arith}
use lib.Dec.{ltb, leb}
use lib.ListN.{length, get_or, length-take, length-drop}
use borrow.Author.Tests.{ltb-true, leb-true}
use Rattle.base.specs.Lists.{Under}
use Rattle.base.proofs.Tests.{and-true}
use Rattle.moves.specs.Moves.{inverse_move, all_moves, phase2_moves}
use Rattle.move_row.specs.Tables.{table_at, columns, size, true_table}
use Rattle.move_table.proofs.Entries.{Back, all_back, phase2-back, entries-small, entry-back}
use Rattle.move_table.proofs.Rows.{table-length}
use Rattle.move_row.proofs.Six.{by-table}
use Rattle.pruning_table.specs.Check.{begins_at, first_of, second_of, rows, entries, part, step_of}
use Rattle.pair_table.specs.Pairs.{next}
use Rattle.pair_table.specs.Tables.{Counts, Inverses, Closed, Undone}
use Rattle.pair_table.proofs.Steps.{next-closed, next-undone}

-- a statement about each of the four pruning tables
pub by-prune : (P : ℕ → Type 0) → P 6 → P 7 → P 8 → P 9 → (t : ℕ) → t < 10 → 6 ≤ t → P t
by-prune P a b c d zero h k = absurd (omega arith)
by-prune P a b c d (suc zero) h k = absurd (omega arith)
by-prune P a b c d (suc (suc zero)) h k = absurd (omega arith)
by-prune P a b c d (suc (suc (suc zero))) h k = absurd (omega arith)
by-prune P a b c d (suc (suc (suc (suc zero)))) h k = absurd (omega arith)
by-prune P a b c d (suc (suc (suc (suc (suc zero))))) h k = absurd (omega arith)
by-prune P a b c d (suc (suc (suc (suc (suc (suc zero)))))) h k = a
by-prune P a b c d (suc (suc (suc (suc (suc (suc (suc zero))))))) h k = b
by-prune P a b c d (suc (suc (suc (suc (suc (suc (suc (suc zero)))))))) h k = c
by-prune P a b c d (suc (suc (suc (suc (suc (suc (suc (suc (suc zero))))))))) h k = d
by-prune P a b c d (suc (suc (suc (suc (suc (suc (suc (suc (suc (suc t)))))))))) h k = absurd (omega arith)

-- ---- the true move tables take each move back

abbrev Taken : List ℕ → ℕ → List ℕ → Type 0
Taken T n moves = (i j k : ℕ) → i < n → j < length moves → k < length moves → get_or moves k 0 ≡ inverse_move (get_or moves j 0)
    → get_or T (get_or T (i * length moves + j) 0 * length moves + k) 0 ≡ i

inverses-of : (T1 T2 : List ℕ) (n1 n2 : ℕ) (moves : List ℕ) → ((j : ℕ) → j < length moves → Back moves j) → Taken T1 n1 moves → Taken T2 n2 moves
    → Inverses T1 T2 n1 n2 (length moves)
inverses-of T1 T2 n1 n2 moves back a b m h =
    let c = back m h in (
      c.column,
      record {
        move = c.within;
        first = λ i l. a i m c.column l h c.within c.inverse;
        second = λ j l. b j m c.column l h c.within c.inverse;
      },
    )

-- counts that fit, by their own test
fit : ℕ → ℕ → ℕ → Bool
fit n1 n2 k = ltb 0 n1 && (ltb 0 n2 && (leb n1 65536 && (leb n2 65536 && leb k 256)))

few : (n1 n2 k : ℕ) → fit n1 n2 k ≡ true → Counts n1 n2 k
unfolding fit
few n1 n2 k e =
    let a = and-true (ltb 0 n1) _ e in
    let b = and-true (ltb 0 n2) _ a.1 in
    let c = and-true (leb n1 65536) _ b.1 in
    let d = and-true (leb n2 65536) _ c.1 in
    record { pos1 = ltb-true _ _ a.0; pos2 = ltb-true _ _ b.0; most1 = leb-true _ _ c.0; most2 = leb-true _ _ d.0; moves = leb-true _ _ d.1 }

-- pruning table t over the true move tables
abbrev pub true_step : ℕ → ℕ → ℕ → ℕ
true_step t = next (true_table (table_at (first_of t))) (true_table (table_at (second_of t))) (rows (second_of t)) (columns (table_at (first_of t)))

abbrev T : ℕ → List ℕ
T t = true_table (table_at t)

-- the two true move tables of table t are as the builder asks for, and take each move back
pub record Sound (t : ℕ) : Type 0 where
  pub counts : Counts (rows (first_of t)) (rows (second_of t)) (columns (table_at (first_of t)))
  pub first : length (T (first_of t)) ≡ rows (first_of t) * columns (table_at (first_of t))
  pub second : length (T (second_of t)) ≡ rows (second_of t) * columns (table_at (first_of t))
  pub small1 : Under (rows (first_of t)) (T (first_of t))
  pub small2 : Under (rows (second_of t)) (T (second_of t))
  pub inverses : Inverses (T (first_of t)) (T (second_of t)) (rows (first_of t)) (rows (second_of t)) (columns (table_at (first_of t)))
  pub pairs : entries t ≡ rows (first_of t) * rows (second_of t)

some-columns : (t : ℕ) → t < 6 → 0 < columns (table_at t)
some-columns = by-table (λ t. 0 < columns (table_at t)) (omega arith) (omega arith) (omega arith) (omega arith) (omega arith) (omega arith)

small : (t : ℕ) → t < 6 → Under (rows t) (T t)
small t h = entries-small t h (some-columns t h)

pub sound : (t : ℕ) → t < 10 → 6 ≤ t → Sound t
unfolding fit
sound =
    by-prune Sound
    (record {
      counts = few 2187 495 18 refl;
      first = table-length (table_at 0);
      second = table-length (table_at 2);
      small1 = small 0 (omega arith);
      small2 = small 2 (omega arith);
      inverses = inverses-of (T 0) (T 2) 2187 495 all_moves all_back (entry-back 0 (omega arith)) (entry-back 2 (omega arith));
      pairs = refl;
    })
    (record {
      counts = few 2048 495 18 refl;
      first = table-length (table_at 1);
      second = table-length (table_at 2);
      small1 = small 1 (omega arith);
      small2 = small 2 (omega arith);
      inverses = inverses-of (T 1) (T 2) 2048 495 all_moves all_back (entry-back 1 (omega arith)) (entry-back 2 (omega arith));
      pairs = refl;
    })
    (record {
      counts = few 40320 24 10 refl;
      first = table-length (table_at 3);
      second = table-length (table_at 5);
      small1 = small 3 (omega arith);
      small2 = small 5 (omega arith);
      inverses = inverses-of (T 3) (T 5) 40320 24 phase2_moves phase2-back (entry-back 3 (omega arith)) (entry-back 5 (omega arith));
      pairs = refl;
    })
    (record {
      counts = few 40320 24 10 refl;
      first = table-length (table_at 4);
      second = table-length (table_at 5);
      small1 = small 4 (omega arith);
      small2 = small 5 (omega arith);
      inverses = inverses-of (T 4) (T 5) 40320 24 phase2_moves phase2-back (entry-back 4 (omega arith)) (entry-back 5 (omega arith));
      pairs = refl;
    })

pub counts_of : (t : ℕ) → t < 10 → 6 ≤ t → Counts (rows (first_of t)) (rows (second_of t)) (columns (table_at (first_of t)))
counts_of t h k = (sound t h k).counts

-- the true step leads to pairs, and is undone
module _ (t : ℕ) (h : t < 10) (k : 6 ≤ t) where
  s : Sound t
  s = sound t h k

  pub closed_of : Closed (true_step t) (columns (table_at (first_of t))) (entries t)
  closed_of =
      subst (Closed (true_step t) (columns (table_at (first_of t)))) (sym s.pairs)
      (next-closed (T (first_of t)) (T (second_of t)) (rows (first_of t)) (rows (second_of t)) (columns (table_at (first_of t))) s.counts.pos2 s.first s.second s.small1 s.small2)

  pub undone-of : Undone (true_step t) (columns (table_at (first_of t))) (entries t)
  undone-of =
      subst (Undone (true_step t) (columns (table_at (first_of t)))) (sym s.pairs)
      (next-undone (T (first_of t)) (T (second_of t)) (rows (first_of t)) (rows (second_of t)) (columns (table_at (first_of t))) s.counts.pos2 s.first s.second s.small1 s.small2 s.inverses)

-- ---- the parts of the blocks

-- each table lies within its block
pub move-within : (t : ℕ) → t < 6 → begins_at t + entries t ≤ 891780
move-within = by-table (λ t. begins_at t + entries t ≤ 891780) (omega arith) (omega arith) (omega arith) (omega arith) (omega arith) (omega arith)

pub prune-within : (t : ℕ) → t < 10 → 6 ≤ t → begins_at t + entries t ≤ 4031685
prune-within = by-prune (λ t. begins_at t + entries t ≤ 4031685) (omega arith) (omega arith) (omega arith) (omega arith)

-- the entries of a move table are its rows times its columns, those of a pruning table the pairs of rows
pub move-entries : (t : ℕ) → t < 6 → entries t ≡ size (table_at t)
move-entries = by-table (λ t. entries t ≡ size (table_at t)) refl refl refl refl refl refl

pub prune-entries : (t : ℕ) → t < 10 → 6 ≤ t → entries t ≡ rows (first_of t) * rows (second_of t)
prune-entries = by-prune (λ t. entries t ≡ rows (first_of t) * rows (second_of t)) refl refl refl refl

pub part_length : (t n : ℕ) (block : List ℕ) → length block ≡ n → begins_at t + entries t ≤ n → length (part t block) ≡ entries t
part_length t n block l h = simp (length-take, length-drop) (omega (arith, l))

-- the two move tables of a pruning table are move tables
pub firsts : (t : ℕ) → t < 10 → 6 ≤ t → first_of t < 6
firsts = by-prune (λ t. first_of t < 6) (omega arith) (omega arith) (omega arith) (omega arith)

pub seconds : (t : ℕ) → t < 10 → 6 ≤ t → second_of t < 6
seconds = by-prune (λ t. second_of t < 6) (omega arith) (omega arith) (omega arith) (omega arith)

-- where the move tables are true, the lent ones say the true step
pub same_step : (moves : List ℕ) → ((t : ℕ) → t < 6 → part t moves ≡ T t) → (t : ℕ) → t < 10 → 6 ≤ t → step_of t moves ≡ true_step t
same_step moves e t h k =
    ap₂ (λ (x y : List ℕ). next x y (rows (second_of t)) (columns (table_at (first_of t)))) (e (first_of t) (firsts t h k)) (e (second_of t) (seconds t h k))
