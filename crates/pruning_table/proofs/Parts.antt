-- A table in its block: the slice that is lent to a builder or a check. Assumes nothing.
use mathlib.Core.Path.{◌≡◌, refl, sym, ap, ap₂, subst, subst₂, ◌∙◌}
use mathlib.Core.List.{List}
use Prim.Native.Nat.{ℕ, ◌+◌, ◌-◌, ◌*◌, ◌≤◌, ◌<◌}
use native.Mathlib.Omega.{arith}
use lib.ListN.{take, drop, length-take, length-drop}
use Rattle.move_row.specs.Tables.{table_at, columns}
use Rattle.pruning_table.specs.Check.{begins_at, prune_number, first_of, second_of, rows, entries, part, Blocks}
use Rattle.pruning_table.specs.declared.PruneTable.{PruneTable}
use Rattle.pruning_table.specs.declared.PruneTable.TheVariants as table
use Rattle.pair_table.specs.Tables.{Counts, TableSizes}
use Rattle.pruning_table.proofs.Ten.{by-prune, firsts, seconds, counts_of, move-entries, move-within, prune-entries, prune-within}

-- ---- the numbers of the four

pub prune_lt : (t : PruneTable) → prune_number t < 10
prune_lt table.CoE = omega arith
prune_lt table.EoE = omega arith
prune_lt table.CpE = omega arith
prune_lt table.EpE = omega arith

pub prune_ge : (t : PruneTable) → 6 ≤ prune_number t
prune_ge table.CoE = omega arith
prune_ge table.EoE = omega arith
prune_ge table.CpE = omega arith
prune_ge table.EpE = omega arith

-- ---- the last of the cases of a match

pub the-ninth : (t : ℕ) → t < 10 → 6 ≤ t → (t ≡ 6 → ⊥) → (t ≡ 7 → ⊥) → (t ≡ 8 → ⊥) → t ≡ 9
the-ninth t h k a b c = omega arith

pub second-low : (t : ℕ) → t < 10 → 6 ≤ t → t < 8 → 2 ≡ second_of t
second-low = by-prune (λ t. t < 8 → 2 ≡ second_of t) (λ h. refl) (λ h. refl) (λ h. absurd (omega arith)) (λ h. absurd (omega arith))

pub second-high : (t : ℕ) → t < 10 → 6 ≤ t → 8 ≤ t → 5 ≡ second_of t
second-high = by-prune (λ t. 8 ≤ t → 5 ≡ second_of t) (λ h. absurd (omega arith)) (λ h. absurd (omega arith)) (λ h. refl) (λ h. refl)

-- ---- the slice

pub slice_is : (t : ℕ) (block : List ℕ) (at len : ℕ) → at ≡ begins_at t → len ≡ entries t → take (at + len - at) (drop at block) ≡ part t block
slice_is t block at len a e = let n : at + len - at ≡ len = omega arith in ap₂ (λ (k i : ℕ). take k (drop i block)) (n ∙ e) a

pub len_is : (t : ℕ) → t < 6 → (r c : ℕ) → r ≡ rows t → c ≡ columns (table_at t) → r * c ≡ entries t
len_is t h r c a b = ap₂ ◌*◌ a b ∙ sym (move-entries t h)

-- ---- a pruning table: the numbers that the code finds for table t, and its three slices

same-columns : (t : ℕ) → t < 10 → 6 ≤ t → columns (table_at (second_of t)) ≡ columns (table_at (first_of t))
same-columns = by-prune (λ t. columns (table_at (second_of t)) ≡ columns (table_at (first_of t))) refl refl refl refl

pub record Spot (t a b k n1 n2 i j p : ℕ) : Type 0 where
  pub below : t < 10
  pub above : 6 ≤ t
  pub first : a ≡ first_of t
  pub second : b ≡ second_of t
  pub columns-are : k ≡ columns (table_at a)
  pub rows1 : n1 ≡ rows a
  pub rows2 : n2 ≡ rows b
  pub at1 : i ≡ begins_at a
  pub at2 : j ≡ begins_at b
  pub at : p ≡ begins_at t

module _ {t a b k n1 n2 i j p : ℕ} (s : Spot t a b k n1 n2 i j p) where
  pub spot-first : a < 6
  spot-first = subst (λ (x : ℕ). x < 6) (sym s.first) (firsts t s.below s.above)

  pub spot-second : b < 6
  spot-second = subst (λ (x : ℕ). x < 6) (sym s.second) (seconds t s.below s.above)

  pub spot-len1 : n1 * k ≡ entries a
  spot-len1 = len_is a spot-first n1 k s.rows1 s.columns-are

  pub spot-len2 : n2 * k ≡ entries b
  spot-len2 =
      len_is b spot-second n2 k s.rows2
      (s.columns-are ∙ ap (λ (x : ℕ). columns (table_at x)) s.first ∙ sym (same-columns t s.below s.above) ∙ ap (λ (x : ℕ). columns (table_at x)) (sym s.second))

  pub spot-len : n1 * n2 ≡ entries t
  spot-len = ap₂ ◌*◌ (s.rows1 ∙ ap rows s.first) (s.rows2 ∙ ap rows s.second) ∙ sym (prune-entries t s.below s.above)

  pub spot-end1 : i + n1 * k ≤ 891780
  spot-end1 = omega (arith, move-within a spot-first, s.at1, spot-len1)

  pub spot-end2 : j + n2 * k ≤ 891780
  spot-end2 = omega (arith, move-within b spot-second, s.at2, spot-len2)

  pub spot-end : p + n1 * n2 ≤ 4031685
  spot-end = omega (arith, prune-within t s.below s.above, s.at, spot-len)

  module _ (moves prunes : List ℕ) (w : Blocks moves prunes) where
    pub slice1 : take (i + n1 * k - i) (drop i moves) ≡ part (first_of t) moves
    slice1 = slice_is a moves i (n1 * k) s.at1 spot-len1 ∙ ap (λ (x : ℕ). part x moves) s.first

    pub slice2 : take (j + n2 * k - j) (drop j moves) ≡ part (second_of t) moves
    slice2 = slice_is b moves j (n2 * k) s.at2 spot-len2 ∙ ap (λ (x : ℕ). part x moves) s.second

    pub slice : take (p + n1 * n2 - p) (drop p prunes) ≡ part t prunes
    slice = slice_is t prunes p (n1 * n2) s.at spot-len

    pub spot-counts : Counts n1 n2 k
    spot-counts =
        subst₂ (λ (x y : ℕ). Counts x y k) (sym (s.rows1 ∙ ap rows s.first)) (sym (s.rows2 ∙ ap rows s.second))
        (subst (λ (x : ℕ). Counts (rows (first_of t)) (rows (second_of t)) x) (sym (s.columns-are ∙ ap (λ (x : ℕ). columns (table_at x)) s.first)) (counts_of t s.below s.above))

    pub spot-sizes : TableSizes (take (i + n1 * k - i) (drop i moves)) (take (j + n2 * k - j) (drop j moves)) (take (p + n1 * n2 - p) (drop p prunes)) n1 n2 k
    spot-sizes =
        record {
          first = simp (length-take, length-drop) (omega (arith, w.six, spot-end1));
          second = simp (length-take, length-drop) (omega (arith, w.six, spot-end2));
          pairs = simp (length-take, length-drop) (omega (arith, w.four, spot-end));
        }
