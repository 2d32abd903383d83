-- The columns of both phases: each is a move, and the sets that the code holds are the columns that may follow. Assumes nothing.
use Prim.Native.Nat.{ℕ, ◌/◌, ◌<◌, ◌≤◌, min}
use mathlib.Core.Path.{◌≡◌, refl, sym, ap, ◌∙◌}
use mathlib.Core.Bool.{Bool, true, false, ◌&&◌}
use mathlib.Core.List.{List, [], ◌∷◌}
use mathlib.Core.Logic.{⊎_elim}
use native.Mathlib.Omega.{arith}
use lib.Dec.{ltb, lit≤}
use lib.ListN.{get_or}
use borrow.Author.Tests.{ne_eqb, ltb-true}
use Rattle.base.specs.Lists.{pick, range, Each, Under, same_list, all_below}
use Rattle.base.specs.Sets.{bits_from, columns_of, keep}
use Rattle.base.proofs.Perm.{less-cut}
use Rattle.base.proofs.Product.{range-under}
use Rattle.base.proofs.Sets.{keep-under, keep_same}
use Rattle.base.proofs.Tests.{and-true, below_true, same_list-is}
use Rattle.moves.specs.Moves.{is_available, is_inverse, is_same_layer, phase1_move, phase2_move, open_of}

-- one test of both phases' columns
columns-fine : all_below (λ j. ltb (phase1_move j) 18 && ltb (phase2_move j) 18) 18 ≡ true
columns-fine = refl

column : (j : ℕ) → j < 18 → (phase1_move j < 18) × (phase2_move j < 18)
column j h =
    let both = and-true _ _ (below_true (λ j. ltb (phase1_move j) 18 && ltb (phase2_move j) 18) 18 columns-fine j h) in
    (ltb-true _ _ both.0, ltb-true _ _ both.1)

pub phase1-column : (j : ℕ) → j < 18 → phase1_move j < 18
phase1-column j h = (column j h).0

pub phase2-column : (j : ℕ) → j < 10 → phase2_move j < 18
phase2-column j h = (column j (omega arith)).1

pub open-under : (name : ℕ → ℕ) (w last : ℕ) → Under w (open_of name w last)
unfolding open_of
open-under name w last = keep-under w _ _ (range-under 0 w w (omega arith))

-- after what is no move, every move is available
no_other : (b : Bool) → pick b false false ≡ false
no_other true = refl
no_other false = refl

pub free : (last m : ℕ) → 18 ≤ last → m < 18 → is_available last m ≡ true
unfolding is_available is_inverse is_same_layer
free last m h k =
    let a : m / 3 < 6 = omega arith in
    let b : 6 ≤ last / 3 = omega arith in
    simp (ne_eqb m last (omega arith), ne_eqb (last / 3) 1 (omega arith), ne_eqb (last / 3) 3 (omega arith), ne_eqb (last / 3) 5 (omega arith), ne_eqb (m / 3) (last / 3) (omega arith), no_other)

-- every column is a move
module _ (name : ℕ → ℕ) (w : ℕ) (named : (j : ℕ) → j < w → name j < 18) where
  pub all-free : (last : ℕ) → 18 ≤ last → (l : List ℕ) → Under w l → Each (λ j. is_available last (name j) ≡ true) l
  all-free last h [] u = tt
  all-free last h (j ∷ l) u = (free last (name j) h (named j u.0), all-free last h l u.1)

  -- whatever stands for no move, the same columns are open
  open_none : (last : ℕ) → 18 ≤ last → open_of name w last ≡ open_of name w 18
  unfolding open_of
  open_none last h = keep_same _ _ _ (both (range 0 w) (range-under 0 w w (omega arith)))
    where
      both : (l : List ℕ) → Under w l → Each (λ j. is_available last (name j) ≡ is_available 18 (name j)) l
      both [] u = tt
      both (j ∷ l) u = (free last (name j) h (named j u.0) ∙ sym (free 18 (name j) (lit≤ tt) (named j u.0)), both l u.1)

-- ---- the constants

unfoldable pub sets1 : List ℕ
sets1 = 262136 ∷ 262080 ∷ 261695 ∷ 258111 ∷ 233471 ∷ 4095 ∷ 262143 ∷ []

unfoldable pub sets2 : List ℕ
sets2 = 1016 ∷ 960 ∷ 959 ∷ 831 ∷ 767 ∷ 255 ∷ 1023 ∷ []

right : List ℕ → (ℕ → ℕ) → ℕ → ℕ → Bool
right sets name w last = same_list (columns_of (get_or sets (last / 3) 0)) (open_of name w last)

-- one test of both phases' sets, after each move and after none
both_right : all_below (λ last. right sets1 phase1_move 18 last && right sets2 phase2_move 10 last) 19 ≡ true
unfolding right sets1 sets2 columns_of bits_from open_of keep range same_list is_available is_inverse is_same_layer
both_right = refl

each_right : (last : ℕ) → last < 19 → (right sets1 phase1_move 18 last ≡ true) × (right sets2 phase2_move 10 last ≡ true)
each_right last h = and-true _ _ (below_true (λ last. right sets1 phase1_move 18 last && right sets2 phase2_move 10 last) 19 both_right last h)

-- by a phase's half of the test: after each move and after what is no move
module _ (sets : List ℕ) (name : ℕ → ℕ) (w : ℕ) (named : (j : ℕ) → j < w → name j < 18) (half : (last : ℕ) → last < 19 → right sets name w last ≡ true) where
  open_is : (last i : ℕ) → i ≡ min (last / 3) 6 → columns_of (get_or sets i 0) ≡ open_of name w last
  unfolding right
  open_is last i e = ⊎_elim
      (λ u. at last (omega (arith, u.0)) (omega (arith, e, u.0)))
      (λ u. at 18 (omega arith) (omega (arith, e, u.0)) ∙ sym (open_none name w named last u.0))
      (less-cut last 18)
    where
      at : (k : ℕ) → k < 19 → i ≡ k / 3 → columns_of (get_or sets i 0) ≡ open_of name w k
      at k h q = ap (λ (n : ℕ). columns_of (get_or sets n 0)) q ∙ same_list-is _ _ (half k h)

pub phase1-open : (last i : ℕ) → i ≡ min (last / 3) 6 → columns_of (get_or sets1 i 0) ≡ open_of phase1_move 18 last
phase1-open = open_is sets1 phase1_move 18 phase1-column λ last h. (each_right last h).0

pub phase2-open : (last i : ℕ) → i ≡ min (last / 3) 6 → columns_of (get_or sets2 i 0) ≡ open_of phase2_move 10 last
phase2-open = open_is sets2 phase2_move 10 phase2-column λ last h. (each_right last h).1
