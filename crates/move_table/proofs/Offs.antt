-- The first place at which a list isn't as it should be: over two lists one behind the other, and the turns of the loops of `bad_in_row` and `first_bad`.
-- Assumes nothing.
use mathlib.Core.Path.{◌≡◌, refl, sym, ap, ap₂, ◌∙◌}
use mathlib.Core.Bool.{Bool, true, false}
use mathlib.Core.List.{List, [], ◌∷◌, ◌++◌}
use Prim.Native.Nat.{ℕ, suc, ◌+◌, ◌-◌, ◌*◌, ◌≤◌, ◌<◌}
use native.Mathlib.Nat.{not-suc-le-zero}
use native.Mathlib.Omega.{arith}
use borrow.Rule.Slice.PartMut.{mid_len, Post-is}
use lib.Dec.{eqb, ltb}
use lib.ListN.{length, get_or, take, drop, drop_of_length-le, take-append-drop}
use lib.Seq.{drop-drop}
use borrow.Author.Tests.{eq-eqb, ne_eqb, lt-ltb, le-ltb, ltb-true, ltb-false}
use Rattle.std.proofs.Common.{Option, Some, None, cond, not}
use Rattle.std.specs.List.{position, position_or_len, zip}
use Rattle.base.specs.Lists.{pick}
use Rattle.base.proofs.Steps.{next}
use Rattle.move_row.specs.Tables.{first_off, off_place}

-- ---- two lists one behind the other

module _ (u v : List ℕ) where
  -- they differ in the first
  off-front : (x y : List ℕ) → length x ≡ length y → first_off x y < length x → first_off (x ++ u) (y ++ v) ≡ first_off x y
  unfolding first_off
  off-front [] y l h = absurd (not-suc-le-zero h)
  off-front (a ∷ x) [] l h = absurd (omega arith)
  off-front (a ∷ x) (b ∷ y) l h = go (eqb a b) (off-front x y (omega arith)) h
    where
      go : (t : Bool) → (first_off x y < length x → first_off (x ++ u) (y ++ v) ≡ first_off x y)
          → pick t (suc (first_off x y)) 0 < suc (length x) → pick t (suc (first_off (x ++ u) (y ++ v))) 0 ≡ pick t (suc (first_off x y)) 0
      go true f h = ap suc (f (omega arith))
      go false f h = refl

  -- they don't
  off_rest : (x y : List ℕ) → length x ≡ length y → length x ≤ first_off x y → first_off (x ++ u) (y ++ v) ≡ length x + first_off u v
  unfolding first_off
  off_rest [] [] l h = omega arith
  off_rest [] (b ∷ y) l h = absurd (omega arith)
  off_rest (a ∷ x) [] l h = absurd (omega arith)
  off_rest (a ∷ x) (b ∷ y) l h = go (eqb a b) (off_rest x y (omega arith)) h
    where
      go : (t : Bool) → (length x ≤ first_off x y → first_off (x ++ u) (y ++ v) ≡ length x + first_off u v)
          → suc (length x) ≤ pick t (suc (first_off x y)) 0 → pick t (suc (first_off (x ++ u) (y ++ v))) 0 ≡ suc (length x) + first_off u v
      go true f h = omega (arith, f (omega arith))
      go false f h = absurd (not-suc-le-zero h)

-- ---- `bad_in_row`: the places before j are as they should be

module _ (whole s : List ℕ) (j : ℕ) where
  off_at : (t : Bool) → j < length whole → j < length s → eqb (get_or whole j 0) (get_or s j 0) ≡ t
      → first_off (drop j whole) (drop j s) ≡ pick t (suc (first_off (drop (j + 1) whole) (drop (j + 1) s))) 0
  unfolding first_off
  off_at t h k e =
      ap₂ first_off (next whole j h) (next s j k) ∙ ap (λ (b : Bool). pick b (suc (first_off (drop (j + 1) whole) (drop (j + 1) s))) 0) e

  off-none : length whole ≤ j → first_off (drop j whole) (drop j s) ≡ 0
  unfolding first_off
  off-none h = ap (λ (l : List ℕ). first_off l (drop j s)) (drop_of_length-le whole h)

  module _ (inv : first_off whole s ≡ j + first_off (drop j whole) (drop j s)) where
    pub off-step : j < length whole → j < length s → get_or whole j 0 ≡ get_or s j 0 → first_off whole s ≡ j + 1 + first_off (drop (j + 1) whole) (drop (j + 1) s)
    off-step h k e = omega (arith, off_at true h k (eq-eqb _ _ e))

    pub off-stop : j < length whole → j < length s → (get_or whole j 0 ≡ get_or s j 0 → ⊥) → j ≡ first_off whole s
    off-stop h k n = omega (arith, off_at false h k (ne_eqb _ _ n))

    pub off-end : length whole ≤ j → j ≡ first_off whole s
    off-end h = omega (arith, off-none h)

-- ---- `first_bad`: the first i rows of c columns are as they should be

module _ (whole s row : List ℕ) (i c : ℕ) (inv : first_off whole s ≡ i * c + first_off (drop (i * c) whole) (drop (i * c) s))
    (size : length row ≡ c) (w : take c (drop (i * c) whole) ≡ row) (fits : i * c + c ≤ length s) where
  lent_length : length (take (i * c + c - i * c) (drop (i * c) s)) ≡ c
  lent_length = mid_len (i * c) (i * c + c) s fits ∙ omega arith

  split : first_off (drop (i * c) whole) (drop (i * c) s) ≡ first_off (row ++ drop (i * c + c) whole) (take (i * c + c - i * c) (drop (i * c) s) ++ drop (i * c + c) s)
  split =
      let a = i * c in
      ap₂ first_off (sym (take-append-drop c (drop a whole)) ∙ ap₂ ◌++◌ w (drop-drop c a whole))
      (sym (take-append-drop (a + c - a) (drop a s)) ∙ ap (λ (r : List ℕ). take (a + c - a) (drop a s) ++ r) (Post-is a (a + c) s (omega arith)))

  pub rows-stop : (j : ℕ) → j ≡ first_off row (take (i * c + c - i * c) (drop (i * c) s)) → j < c → i * c + j ≡ first_off whole s
  rows-stop j e h =
      let a = i * c in
      omega
      (arith, split, off-front (drop (a + c) whole) (drop (a + c) s) row (take (a + c - a) (drop a s)) (size ∙ sym lent_length) (omega arith))

  pub rows_step : (j : ℕ) → j ≡ first_off row (take (i * c + c - i * c) (drop (i * c) s)) → c ≤ j
      → first_off whole s ≡ (i + 1) * c + first_off (drop ((i + 1) * c) whole) (drop ((i + 1) * c) s)
  rows_step j e h =
      let a = i * c in
      let n : (i + 1) * c ≡ a + c = omega arith in
      let f : first_off whole s ≡ a + c + first_off (drop (a + c) whole) (drop (a + c) s) =
      omega
      (arith, split, off_rest (drop (a + c) whole) (drop (a + c) s) row (take (a + c - a) (drop a s)) (size ∙ sym lent_length) (omega arith)) in
      f ∙ ap (λ (k : ℕ). k + first_off (drop k whole) (drop k s)) (sym n)

-- ---- the place as an option

module _ (xs ys : List ℕ) where
  pub some-off : {e : ℕ} → e ≡ first_off xs ys → e < length xs → Some e ≡ off_place xs ys
  some-off e h = let l : first_off xs ys < length xs = omega arith in rw (lt-ltb _ _ l) (ap Some e)

  pub none-off : length xs ≤ first_off xs ys → None ≡ off_place xs ys
  none-off h = rw (le-ltb _ _ h) refl

  -- what an answer says of the place
  pub off-some : {r : Option ℕ} {j : ℕ} → r ≡ off_place xs ys → r ≡ Some j → (j ≡ first_off xs ys) × (j < length xs)
  off-some {r} {j} e is = go (ltb (first_off xs ys) (length xs)) refl (sym is ∙ e)
    where
      go : (b : Bool) → ltb (first_off xs ys) (length xs) ≡ b → Some j ≡ pick b (Some (first_off xs ys)) None → (j ≡ first_off xs ys) × (j < length xs)
      go true t f = let k : j ≡ first_off xs ys = cc in (k, rw k (ltb-true _ _ t))
      go false t f = absurd (cc)

  pub off-same : {r : Option ℕ} → r ≡ off_place xs ys → r ≡ None → length xs ≤ first_off xs ys
  off-same {r} e is = go (ltb (first_off xs ys) (length xs)) refl (sym is ∙ e)
    where
      go : (b : Bool) → ltb (first_off xs ys) (length xs) ≡ b → None ≡ pick b (Some (first_off xs ys)) None → length xs ≤ first_off xs ys
      go true t f = absurd (cc)
      go false t f = ltb-false _ _ t

-- what `position` finds in the pairs of two lists of one length
zip-length : (xs ys : List ℕ) → length xs ≡ length ys → length (zip xs ys) ≡ length xs
zip-length [] ys l = refl
zip-length (x ∷ xs) [] l = absurd (omega arith)
zip-length (x ∷ xs) (y ∷ ys) l = ap suc (zip-length xs ys (omega arith))

zip-first : (xs ys : List ℕ) → length xs ≡ length ys → position_or_len (λ p. not (eqb p.0 p.1)) (zip xs ys) ≡ first_off xs ys
unfolding first_off
zip-first [] ys l = refl
zip-first (x ∷ xs) [] l = absurd (omega arith)
zip-first (x ∷ xs) (y ∷ ys) l = go (eqb x y) (zip-first xs ys (omega arith))
  where
    go : (b : Bool) → position_or_len (λ p. not (eqb p.0 p.1)) (zip xs ys) ≡ first_off xs ys
        → cond (not (not b)) (1 + position_or_len (λ p. not (eqb p.0 p.1)) (zip xs ys)) 0 ≡ pick b (suc (first_off xs ys)) 0
    go true e = omega (arith, e)
    go false e = refl

pub zip-off : (xs ys : List ℕ) → length xs ≡ length ys → position (λ p. not (eqb p.0 p.1)) (zip xs ys) ≡ off_place xs ys
zip-off xs ys l = rw (zip-first xs ys l, zip-length xs ys l) (go (ltb (first_off xs ys) (length xs)))
  where
    go : (b : Bool) → cond b (Some (first_off xs ys)) None ≡ pick b (Some (first_off xs ys)) None
    go true = refl
    go false = refl
