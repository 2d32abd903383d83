-- The builder of all four pruning tables: the scan of the six move tables, one table in its part of the block, and the tables before it.
-- Assumes nothing.
use mathlib.Core.Path.{◌≡◌, refl, sym, ap, ap₂, subst, subst₂, ◌∙◌}
use mathlib.Core.Bool.{Bool, true, false}
use mathlib.Core.Logic.{⊎_elim, inl}
use mathlib.Core.List.{List, [], ◌∷◌, ◌++◌}
use Prim.Native.Nat.{ℕ, zero, suc, ◌+◌, ◌-◌, ◌*◌, ◌≤◌, ◌<◌}
use native.Mathlib.Nat.{eq-or-lt_of_le}
use native.Mathlib.Omega.{arith}
use borrow.Rule.Slice.PartMut.{put_mid, same_len_mid}
use lib.ListN.{length, get_or, take, drop, length-take, length-drop, take-append-drop}
use lib.Seq.{take_at, drop_at, drop-drop, length-take-le, take-append-le, drop-append-le, drop-append-add}
use Rattle.base.specs.Lists.{Under}
use Rattle.base.proofs.Perm.{less-cut}
use Rattle.move_row.specs.Tables.{table_at, columns}
use Rattle.pair_table.specs.Answers.{Built, Decides, Unreached255, Layer, Outcome}
use Rattle.pruning_table.specs.declared.PruneTable.{PruneTable}
use Rattle.pruning_table.specs.declared.PruneTable.TheVariants as table
use Rattle.pruning_table.specs.Block.{AllBelow, Filled, Missing, Refilled}
use Rattle.pruning_table.specs.Check.{begins_at, prune_number, first_of, second_of, rows, entries, part, step_of, Blocks}
use Rattle.pair_table.specs.Pairs.{next}
use Rattle.pair_table.specs.declared.BuildError.TheVariants.{Length, Entry, Unreached}
use Rattle.std.proofs.Common.{Ok, Err, is_err}
use Rattle.pruning_table.proofs.Parts.{Spot, spot-sizes, spot-len, spot-end, spot-first, spot-second, slice1, slice2}
use Rattle.pruning_table.proofs.Ten.{by-prune}

-- ---- a part of a list that is put in: what stands there, and what stands before it and behind it

module _ (xs ys : List ℕ) (p n : ℕ) (len : length ys ≡ n) (fits : p + n ≤ length xs) where
  at_part : take n (drop p (put_mid p n xs ys)) ≡ ys
  at_part =
      ap (take n) (drop_at (take p xs) (ys ++ drop n (drop p xs)) p (length-take-le p xs (omega arith))) ∙ take_at ys (drop n (drop p xs)) n len

  before-part : (q m : ℕ) → q + m ≤ p → take m (drop q (put_mid p n xs ys)) ≡ take m (drop q xs)
  before-part q m h =
      let l : length (take p xs) ≡ p = length-take-le p xs (omega arith) in
      ap (take m) (drop-append-le q (take p xs) (ys ++ drop n (drop p xs)) (omega arith))
      ∙ take-append-le m (drop q (take p xs)) (ys ++ drop n (drop p xs)) (omega (arith, length-drop q (take p xs)))
      ∙ sym (ap (take m) (ap (drop q) (sym (take-append-drop p xs)) ∙ drop-append-le q (take p xs) (drop p xs) (omega arith))
      ∙ take-append-le m (drop q (take p xs)) (drop p xs) (omega (arith, length-drop q (take p xs))))

  behind-part : (q m : ℕ) → p + n ≤ q → take m (drop q (put_mid p n xs ys)) ≡ take m (drop q xs)
  behind-part q m h =
      let l : length (take p xs) ≡ p = length-take-le p xs (omega arith) in
      let r = drop n (drop p xs) in
      let i : q ≡ length (take p xs) + (n + (q - (p + n))) = omega arith in
      let j : p + (n + (q - (p + n))) ≡ q = omega arith in
      ap (take m)
      (ap (λ (x : ℕ). drop x (take p xs ++ (ys ++ r))) i
      ∙ drop-append-add (take p xs) (ys ++ r) (n + (q - (p + n)))
      ∙ ap (λ (x : ℕ). drop (x + (q - (p + n))) (ys ++ r)) (sym len)
      ∙ drop-append-add ys r (q - (p + n))
      ∙ drop-drop (q - (p + n)) n (drop p xs)
      ∙ drop-drop (n + (q - (p + n))) p xs
      ∙ ap (λ (x : ℕ). drop x xs) j)

-- ---- one table in its part of the block

-- the tables lie one behind the other
abbrev Apart : ℕ → ℕ → Type 0
Apart s t = s < t → begins_at s + entries s ≤ begins_at t

apart : (s : ℕ) → s < 10 → 6 ≤ s → (t : ℕ) → t < 10 → 6 ≤ t → Apart s t
apart =
    by-prune (λ s. (t : ℕ) → t < 10 → 6 ≤ t → Apart s t)
    (by-prune (Apart 6) (λ h. absurd (omega arith)) (λ h. omega arith) (λ h. omega arith) (λ h. omega arith))
    (by-prune (Apart 7) (λ h. absurd (omega arith)) (λ h. absurd (omega arith)) (λ h. omega arith) (λ h. omega arith))
    (by-prune (Apart 8) (λ h. absurd (omega arith)) (λ h. absurd (omega arith)) (λ h. absurd (omega arith)) (λ h. omega arith))
    (by-prune (Apart 9) (λ h. absurd (omega arith)) (λ h. absurd (omega arith)) (λ h. absurd (omega arith)) (λ h. absurd (omega arith)))

module _ {t a b k n1 n2 i j p : ℕ} (s : Spot t a b k n1 n2 i j p) (moves prunes : List ℕ) (w : Blocks moves prunes) (below : AllBelow moves) where
  abbrev first : List ℕ
  first = take (i + n1 * k - i) (drop i moves)

  abbrev second : List ℕ
  second = take (j + n2 * k - j) (drop j moves)

  abbrev lent : List ℕ
  lent = take (p + n1 * n2 - p) (drop p prunes)

  under1 : Under n1 first
  under1 =
      subst₂ (λ (n : ℕ) (l : List ℕ). Under n l) (sym (s.rows1 ∙ ap rows s.first)) (sym (slice1 s moves prunes w))
      (below (first_of t) (subst (λ (x : ℕ). x < 6) s.first (spot-first s)))

  under2 : Under n2 second
  under2 =
      subst₂ (λ (n : ℕ) (l : List ℕ). Under n l) (sym (s.rows2 ∙ ap rows s.second)) (sym (slice2 s moves prunes w))
      (below (second_of t) (subst (λ (x : ℕ). x < 6) s.second (spot-second s)))

  module _ (ys : List ℕ) (len : length ys ≡ length lent) where
    after : List ℕ
    after = put_mid p (p + n1 * n2 - p) prunes ys

    size_is : p + n1 * n2 - p ≡ n1 * n2
    size_is = omega arith

    ys-size : length ys ≡ p + n1 * n2 - p
    ys-size = len ∙ simp (length-take, length-drop) (omega (arith, w.four, spot-end s))

    part-is : part t (put_mid p (p + n1 * n2 - p) prunes ys) ≡ ys
    part-is =
        ap₂ (λ (x y : ℕ). take x (drop y (put_mid p (p + n1 * n2 - p) prunes ys))) (sym (size_is ∙ spot-len s)) (sym s.at)
        ∙ at_part prunes ys p (p + n1 * n2 - p) ys-size (omega (arith, w.four, spot-end s, size_is))

    other-is : (q : ℕ) → q < 10 → 6 ≤ q → (q ≡ t → ⊥) → part q (put_mid p (p + n1 * n2 - p) prunes ys) ≡ part q prunes
    other-is q h g n =
        ⊎_elim
        (λ u. before-part prunes ys p (p + n1 * n2 - p) ys-size (omega (arith, w.four, spot-end s, size_is)) (begins_at q) (entries q) (omega (arith, apart q h g t s.below s.above u.0, s.at)))
        (λ u.
        let l : t < q = omega (arith, u.0, n) in
        behind-part prunes ys p (p + n1 * n2 - p) ys-size (omega (arith, w.four, spot-end s, size_is)) (begins_at q) (entries q) (omega (arith, apart t s.below s.above q h g l, s.at, spot-len s, size_is)))
        (less-cut q t)

    pub refilled : Layer (next first second n2 k) k (n1 * n2) 254 ys → Refilled moves t prunes (put_mid p (p + n1 * n2 - p) prunes ys)
    refilled y =
        record {
          size = same_len_mid p (p + n1 * n2 - p) prunes ys len;
          filled =
              subst (λ (l : List ℕ). Layer (step_of t moves) (columns (table_at (first_of t))) (entries t) 254 l) (sym part-is)
              (subst (λ (n : ℕ). Layer (step_of t moves) (columns (table_at (first_of t))) n 254 ys) (spot-len s)
              (subst₂ (λ (m c : ℕ). Layer (next (part (first_of t) moves) (part (second_of t) moves) m c) c (n1 * n2) 254 ys) (s.rows2 ∙ ap rows s.second)
              (s.columns-are ∙ ap (λ (x : ℕ). columns (table_at x)) s.first)
              (subst₂ (λ (x z : List ℕ). Layer (next x z n2 k) k (n1 * n2) 254 ys) (slice1 s moves prunes w) (slice2 s moves prunes w) y)));
          others = other-is;
        }

    -- what the builder answered
    pub some-missing : Unreached255 ys → Missing t (put_mid p (p + n1 * n2 - p) prunes ys)
    some-missing = subst Unreached255 (sym part-is)

    pub none-missing : (Unreached255 ys → ⊥) → Missing t (put_mid p (p + n1 * n2 - p) prunes ys) → ⊥
    none-missing n m = n (subst Unreached255 part-is m)

    pub done-fills : Outcome first second n1 n2 k lent ys (Ok tt)
        → Refilled moves t prunes (put_mid p (p + n1 * n2 - p) prunes ys) × Decides (Missing t (put_mid p (p + n1 * n2 - p) prunes ys)) false
    done-fills o =
        (refilled (λ q h. inl (o.2 q h)), none-missing (λ (q, l, e). let h : q < n1 * n2 = omega (arith, ys-size, size_is) in omega (arith, (o.2 q h).0)))

    pub unreached-fills : Outcome first second n1 n2 k lent ys (Err Unreached)
        → Refilled moves t prunes (put_mid p (p + n1 * n2 - p) prunes ys) × Decides (Missing t (put_mid p (p + n1 * n2 - p) prunes ys)) true
    unreached-fills o = (refilled o.2, some-missing o.3)

  pub no_length : {ys : List ℕ} → Outcome first second n1 n2 k lent ys (Err Length) → ⊥
  no_length o = o.0 (spot-sizes s moves prunes w)

  pub no-entry : {ys : List ℕ} → Outcome first second n1 n2 k lent ys (Err Entry) → ⊥
  no-entry o = o.1 (under1, under2)

  -- whatever it answered, an error says that some pair is out of reach: the lengths and the scan rule out the others
  pub part-fills : (ys : List ℕ) → length ys ≡ length lent → (r : Built) → Outcome first second n1 n2 k lent ys r
      → Refilled moves t prunes (put_mid p (p + n1 * n2 - p) prunes ys) × Decides (Missing t (put_mid p (p + n1 * n2 - p) prunes ys)) (is_err r)
  part-fills ys len (Ok _) o = done-fills ys len o
  part-fills ys len (Err Unreached) o = unreached-fills ys len o
  part-fills ys len (Err Length) o = absurd (o.0 (spot-sizes s moves prunes w))
  part-fills ys len (Err Entry) o = absurd (o.1 (under1, under2))

-- ---- the tables before t

abbrev pub FilledTo : List ℕ → List ℕ → ℕ → Type 0
FilledTo moves prunes t = (s : ℕ) → s < t → 6 ≤ s → Filled moves s prunes

abbrev pub MissingTo : List ℕ → ℕ → Type 0
MissingTo prunes t = (s : ℕ) × (s < t) × (6 ≤ s) × Missing s prunes

pub filled_none : (moves prunes : List ℕ) → FilledTo moves prunes 6
filled_none moves prunes s h g = absurd (omega arith)

pub missing-none : (prunes : List ℕ) → MissingTo prunes 6 → ⊥
missing-none prunes (s, h, g, m) = omega arith

module _ (moves prunes prunes' : List ℕ) (t : ℕ) (h : t < 10) (g : 6 ≤ t) (r : Refilled moves t prunes prunes') where
  same-part : (s : ℕ) → s < t → 6 ≤ s → part s prunes' ≡ part s prunes
  same-part s l k = r.others s (omega arith) k (λ e. omega arith)

  pub filled_more : FilledTo moves prunes t → FilledTo moves prunes' (t + 1)
  filled_more f s l k =
      ⊎_elim (λ (e : s ≡ t). subst (λ (x : ℕ). Filled moves x prunes') (sym e) r.filled)
      (λ (i : s < t). subst (λ (y : List ℕ). Layer (step_of s moves) (columns (table_at (first_of s))) (entries s) 254 y) (sym (same-part s i k)) (f s i k))
      (eq-or-lt_of_le {n = s} {m = t} (omega arith))

  pub missing-kept : MissingTo prunes t → MissingTo prunes' (t + 1)
  missing-kept (s, l, k, m) = (s, omega arith, k, subst Unreached255 (sym (same-part s l k)) m)

  pub missing-here : Missing t prunes' → MissingTo prunes' (t + 1)
  missing-here m = (t, omega arith, g, m)

  pub missing-nowhere : (MissingTo prunes t → ⊥) → (Missing t prunes' → ⊥) → MissingTo prunes' (t + 1) → ⊥
  missing-nowhere a b (s, l, k, m) =
      ⊎_elim (λ (e : s ≡ t). b (subst (λ (x : ℕ). Missing x prunes') e m)) (λ (i : s < t). a (s, i, k, subst Unreached255 (same-part s i k) m))
      (eq-or-lt_of_le {n = s} {m = t} (omega arith))

  -- the answer stays where table t has none
  pub missing-still : (b : Bool) → Decides (MissingTo prunes t) b → (Missing t prunes' → ⊥) → Decides (MissingTo prunes' (t + 1)) b
  missing-still true a n = missing-kept a
  missing-still false a n = missing-nowhere a n

-- the four in their order
abbrev pub four : List PruneTable
four = table.CoE ∷ table.EoE ∷ table.CpE ∷ table.EpE ∷ []

pub four-number : (d : PruneTable) (i : ℕ) → i < 4 → prune_number (get_or four i d) ≡ 6 + i
four-number d zero h = refl
four-number d (suc zero) h = refl
four-number d (suc (suc zero)) h = refl
four-number d (suc (suc (suc zero))) h = refl
four-number d (suc (suc (suc (suc i)))) h = absurd (omega arith)

-- the i-th of them is filled after those before it
module _ (moves prunes prunes' : List ℕ) (i t : ℕ) (e : t ≡ 6 + i) (h : i < 4) (r : Refilled moves t prunes prunes') where
  pub turn-filled : FilledTo moves prunes (6 + i) → FilledTo moves prunes' (6 + (i + 1))
  turn-filled f s l g = filled_more moves prunes prunes' t (omega arith) (omega arith) r (rw e f) s (omega arith) g

  pub turn-missing : Missing t prunes' → MissingTo prunes' (6 + (i + 1))
  turn-missing m = (t, omega arith, omega arith, m)

  pub turn-still : (b : Bool) → Decides (MissingTo prunes (6 + i)) b → (Missing t prunes' → ⊥) → Decides (MissingTo prunes' (6 + (i + 1))) b
  turn-still b a n = go b (missing-still moves prunes prunes' t (omega arith) (omega arith) r b (rw e a) n)
    where
      go : (b : Bool) → Decides (MissingTo prunes' (t + 1)) b → Decides (MissingTo prunes' (6 + (i + 1))) b
      go true (s, l, g, m) = (s, omega arith, g, m)
      go false n = λ (s, l, g, m). n (s, omega arith, g, m)
