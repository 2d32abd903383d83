-- Which kinds are of corners and which of edges, and what fits. Assumes nothing.
use mathlib.Core.Path.{◌≡◌, refl, sym, ap, ◌∙◌}
use mathlib.Core.Bool.{true, false}
use mathlib.Core.List.{List}
use Prim.Native.Nat.{ℕ, zero, suc, ◌≤◌, ◌<◌}
use native.Mathlib.Omega.{arith}
use lib.Dec.{eqb}
use lib.ListN.{length}
use borrow.Author.Tests.{lt-ltb, le-ltb, eq-eqb, ne_eqb}
use Rattle.base.specs.Lists.{pick}
use Rattle.numbering.specs.Kinds.{co, cp}
use Rattle.coordinate.specs.Calls.{kind_at, fits, index_number, index_left, arrange_number, arrange_left}

-- ---- the kinds one by one

by_kind : (P : ℕ → Type 0) → P 0 → P 1 → P 2 → P 3 → P 4 → P 5 → P 6 → (k : ℕ) → k < 7 → P k
by_kind P a b c d e f g zero h = a
by_kind P a b c d e f g (suc zero) h = b
by_kind P a b c d e f g (suc (suc zero)) h = c
by_kind P a b c d e f g (suc (suc (suc zero))) h = d
by_kind P a b c d e f g (suc (suc (suc (suc zero)))) h = e
by_kind P a b c d e f g (suc (suc (suc (suc (suc zero))))) h = f
by_kind P a b c d e f g (suc (suc (suc (suc (suc (suc zero)))))) h = g
by_kind P a b c d e f g (suc (suc (suc (suc (suc (suc (suc k))))))) h = absurd (omega arith)

pub twelve-places : (k : ℕ) → k < 7 → (k ≡ 0 → ⊥) → (k ≡ 3 → ⊥) → 12 ≡ (kind_at k).places
twelve-places =
    by_kind (λ k. (k ≡ 0 → ⊥) → (k ≡ 3 → ⊥) → 12 ≡ (kind_at k).places) (λ a b. absurd (a refl)) (λ a b. refl) (λ a b. refl) (λ a b. absurd (b refl))
    (λ a b. refl) (λ a b. refl) (λ a b. refl)

-- m: how many places there are. Eight are of corners, and others are twelve, of edges
module _ (k m : ℕ) (h : k < 7) (e : m ≡ (kind_at k).places) where
  pub corner-kind : m ≡ 8 → pick (eqb k 0) co cp ≡ kind_at k
  corner-kind l =
      by_kind (λ j. (kind_at j).places ≡ 8 → pick (eqb j 0) co cp ≡ kind_at j) (λ d. refl) (λ d. absurd (omega arith)) (λ d. absurd (omega arith)) (λ d. refl)
      (λ d. absurd (omega arith)) (λ d. absurd (omega arith)) (λ d. absurd (omega arith)) k h (sym e ∙ l)

  pub edge-kind : (m ≡ 8 → ⊥) → (k ≡ 0 → ⊥) × (k ≡ 3 → ⊥)
  edge-kind n = ((λ d. n (e ∙ ap (λ (j : ℕ). (kind_at j).places) d)), (λ d. n (e ∙ ap (λ (j : ℕ). (kind_at j).places) d)))

  pub edge_places : (m ≡ 8 → ⊥) → m ≡ 12
  edge_places n = e ∙ sym (twelve-places k h (edge-kind n).0 (edge-kind n).1)

-- ---- what fits, and what a call leaves

module _ (k : ℕ) (places : List ℕ) where
  pub no_kind : 7 ≤ k → fits k places ≡ false
  no_kind h = rw (le-ltb k 7 h)

  pub other-size : k < 7 → (length places ≡ (kind_at k).places → ⊥) → fits k places ≡ false
  other-size h n = rw (lt-ltb k 7 h, ne_eqb (length places) (kind_at k).places n)

  pub right-size : k < 7 → length places ≡ (kind_at k).places → fits k places ≡ true
  right-size h e = rw (lt-ltb k 7 h, eq-eqb (length places) (kind_at k).places e)

  pub index-unfit : (before : ℕ) → fits k places ≡ false → (10 ≡ index_number k places) × (before ≡ index_left k places before)
  index-unfit before e = (rw e, rw e)

  pub arrange-unfit : (n : ℕ) → fits k places ≡ false → (10 ≡ arrange_number k n places) × (places ≡ arrange_left k n places)
  arrange-unfit n e = (rw e, rw e)
