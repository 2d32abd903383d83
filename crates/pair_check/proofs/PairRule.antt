-- The rule of the check at one pair. Assumes nothing.
use mathlib.Core.Path.{◌≡◌, refl, sym, ◌∙◌}
use mathlib.Core.Bool.{Bool, true, false}
use Prim.Native.Nat.{ℕ, zero, suc, ◌+◌, ◌-◌, ◌≤◌, ◌<◌}
use native.Mathlib.Nat.{not-suc-le-zero, suc-ne-zero}
use native.Mathlib.Omega.{arith}
use lib.Dec.{eqb}
use borrow.Author.Tests.{eqb-true, eqb-false}
use borrow.Author.Count.{below_more}
use Rattle.pair_table.specs.Answers.{Decides}
use Rattle.pair_table.specs.Pairs.{Between, Fine}
use Rattle.pair_table.proofs.Held.{decides}

module _ (step : ℕ → ℕ → ℕ) (k : ℕ) (dist : ℕ → ℕ) where
  -- at pair 0
  pub fine-zero : (p v : ℕ) → v ≡ dist p → p ≡ 0 → Decides (Fine step k dist p) (eqb v 0)
  fine-zero zero v h e = decides (eqb v 0) (λ t. sym h ∙ eqb-true v 0 t) (λ f z. eqb-false v 0 f (h ∙ z))
  fine-zero (suc p) v h e = absurd (suc-ne-zero p e)

  -- at any other
  pub fine-between : (p : ℕ) → (p ≡ 0 → ⊥) → Fine step k dist p → Between step k dist p
  fine-between zero ne f = absurd (ne refl)
  fine-between (suc p) ne f = f

  pub between-fine : (p : ℕ) → (p ≡ 0 → ⊥) → Between step k dist p → Fine step k dist p
  between-fine zero ne b = absurd (ne refl)
  between-fine (suc p) ne b = b

  -- one of the first m neighbours of p holds one less than p
  abbrev pub OneOf : ℕ → ℕ → Type 0
  OneOf p m = (m' : ℕ) × (m' < m) × (dist (step p m') ≡ dist p - 1)

  -- what is known when m neighbours of p have been looked at
  pub record Seen (p m : ℕ) (one : Bool) : Type 0 where
    pub none_below : (m' : ℕ) → m' < m → dist p - 1 ≤ dist (step p m')
    pub one_holds : Decides (OneOf p m) one

  pub seen_none : (p : ℕ) → Seen p 0 false
  seen_none p = record { none_below = λ m' l. absurd (not-suc-le-zero l); one_holds = λ w. absurd (not-suc-le-zero w.1) }

  module _ (p m : ℕ) (one : Bool) (s : Seen p m one) (low : dist p - 1 ≤ dist (step p m)) where
    more-below : (m' : ℕ) → m' < m + 1 → dist p - 1 ≤ dist (step p m')
    more-below = below_more (λ m'. dist p - 1 ≤ dist (step p m')) m s.none_below low

    pub seen_one : dist (step p m) ≡ dist p - 1 → Seen p (m + 1) true
    seen_one e = record { none_below = more-below; one_holds = (m, omega arith, e) }

    still : (b : Bool) → (dist (step p m) ≡ dist p - 1 → ⊥) → Decides (OneOf p m) b → Decides (OneOf p (m + 1)) b
    still true ne w = (w.0, omega (arith, w.1), w.2)
    still false ne none = λ w. below_more (λ x. dist (step p x) ≡ dist p - 1 → ⊥) m (λ x lx ex. none (x, lx, ex)) ne w.0 w.1 w.2

    pub seen_more : (dist (step p m) ≡ dist p - 1 → ⊥) → Seen p (m + 1) one
    seen_more ne = record { none_below = more-below; one_holds = still one ne s.one_holds }

  -- all neighbours have been looked at
  pub seen_all : (p m : ℕ) (one : Bool) → (p ≡ 0 → ⊥) → (dist p ≡ 0 → ⊥) → Seen p m one → m ≡ k → Decides (Fine step k dist p) one
  seen_all p m true ne pos s e = between-fine p ne (record {
    some = omega arith;
    none_below = λ m' l. s.none_below m' (omega arith);
    one_holds = let (m', l, h) = s.one_holds in (m', omega arith, h);
  })
  seen_all p m false ne pos s e = λ f.
      let (m', l, h) = (fine-between p ne f).one_holds in
      s.one_holds (m', omega arith, h)
