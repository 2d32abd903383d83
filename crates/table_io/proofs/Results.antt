-- Both blocks built, or the first refusal; any two results that are allowed are equal. Assumes nothing.
use mathlib.Core.Path.{◌≡◌, refl, sym, ap, subst, ◌∙◌}
use mathlib.Core.Bool.{Bool, true, false}
use mathlib.Core.List.{List}
use Prim.Native.Nat.{ℕ}
use native.Mathlib.Omega.{arith}
use lib.Dec.{eqb}
use lib.ListN.{length}
use borrow.Author.Tests.{eq-eqb, ne_eqb, eqb-true, eqb-false}
use Rattle.base.specs.Lists.{pick}
use Rattle.move_table.specs.Layout.{move_block}
use Rattle.table_calls.specs.Calls.{block_number, block_left, PrunesCall}
use Rattle.table_calls.proofs.Numbers.{prunes-one, check-one}
use Rattle.table_io.specs.Both.{BuildCall, GoodCall}

module _ (moves before : List ℕ) where
  sized-number : length moves ≡ 891780 → block_number moves ≡ 0
  sized-number l = ap (λ (b : Bool). pick b 0 10) (eq-eqb (length moves) 891780 l)

  other-number : (length moves ≡ 891780 → ⊥) → block_number moves ≡ 10
  other-number n = ap (λ (b : Bool). pick b 0 10) (ne_eqb (length moves) 891780 n)

  -- what the builder of the move tables refuses is the answer
  pub refused : (six : ℕ) → six ≡ block_number moves → (six ≡ 0 → ⊥) → BuildCall moves before before six
  refused six e n = record { sized = λ l. absurd (n (e ∙ sized-number l)); other = λ f. (e ∙ other-number f, refl) }

  -- else the pruning tables were built over the true ones
  pub over_true : (six : ℕ) → six ≡ block_number moves → six ≡ 0 → (left : List ℕ) → left ≡ block_left moves → (after : List ℕ) (r : ℕ)
      → PrunesCall left before after r → BuildCall moves before after r
  over_true six e z left k after r p =
      record {
        sized = λ l. subst (λ (x : List ℕ). PrunesCall x before after r) (k ∙ ap (λ (b : Bool). pick b move_block moves) (eq-eqb (length moves) 891780 l)) p;
        other = λ f. absurd (omega (arith, e, z, other-number f));
      }

  -- any two results are equal
  module _ (u v : List ℕ) (r s : ℕ) (a : BuildCall moves before u r) (b : BuildCall moves before v s) where
    both-sized : length moves ≡ 891780 → (r ≡ s) × (u ≡ v)
    both-sized l = prunes-one move_block before u v r s (a.sized l) (b.sized l)

    both-other : (length moves ≡ 891780 → ⊥) → (r ≡ s) × (u ≡ v)
    both-other f = ((a.other f).0 ∙ sym (b.other f).0, (a.other f).1 ∙ sym (b.other f).1)

    pub build-one : (r ≡ s) × (u ≡ v)
    build-one = go (eqb (length moves) 891780) refl
      where
        go : (q : Bool) → eqb (length moves) 891780 ≡ q → (r ≡ s) × (u ≡ v)
        go true e = both-sized (eqb-true (length moves) 891780 e)
        go false e = both-other (eqb-false (length moves) 891780 e)

pub good-one : (moves prunes : List ℕ) (r s : Bool) → GoodCall moves prunes r → GoodCall moves prunes s → r ≡ s
good-one moves prunes r s (n, a, e) (m, b, f) = e ∙ ap (λ (x : ℕ). eqb x 0) (check-one moves prunes n m a b) ∙ sym f
