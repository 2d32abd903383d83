-- The mathematics of the table check, once for any step, any number of moves and of pairs. Where every step leads to a pair and is undone by a step,
-- the rule of the check holds at every pair exactly when every entry is the least number of moves. Assumes nothing.
use mathlib.Core.Path.{◌≡◌, refl, sym, ap, subst}
use mathlib.Core.Logic.{◌↔◌}
use Prim.Native.Nat.{ℕ, zero, suc, ◌≤◌, ◌<◌}
use native.Mathlib.Nat.{suc-ne-zero, le_antisymm}
use native.Mathlib.Omega.{arith}
use Rattle.pair_table.specs.Pairs.{Walks, Least, IsTrue, Between, Fine}
use Rattle.pair_table.specs.Tables.{Closed, Undone}

-- the least number is one
pub least-one : (step : ℕ → ℕ → ℕ) (k p v w : ℕ) → Least step k p v → Least step k p w → v ≡ w
least-one step k p v w a b = le_antisymm (a.least w b.walk) (b.least v a.walk)

-- a walk ends below n
pub walk-in : (step : ℕ → ℕ → ℕ) (k n : ℕ) → 0 < n → Closed step k n → (d q : ℕ) → Walks step k d q → q < n
walk-in step k n pos closed zero q w = subst (λ (x : ℕ). x < n) (sym w) pos
walk-in step k n pos closed (suc d) q (p, m, w, l, e) = subst (λ (x : ℕ). x < n) e (closed p m (walk-in step k n pos closed d p w) l)

module _ (step : ℕ → ℕ → ℕ) (k n : ℕ) (pos : 0 < n) (closed : Closed step k n) (undone : Undone step k n) (dist : ℕ → ℕ) where
  module _ (fine : (p : ℕ) → p < n → Fine step k dist p) where
    -- an entry v has a walk of v moves: from the neighbour that holds v - 1, and back by the step that undoes
    fine-walk : (v p : ℕ) → p < n → dist p ≡ v → Walks step k v p
    fine-walk zero zero l e = refl
    fine-walk zero (suc p) l e = absurd (omega (arith, (fine (suc p) l).some))
    fine-walk (suc v) zero l e = absurd (omega (arith, fine 0 l))
    fine-walk (suc v) (suc p) l e =
        let b : Between step k dist (suc p) = fine (suc p) l in
        let (m, lm, h) = b.one_holds in
        let (m', lm', back) = undone (suc p) m l lm in
        (step (suc p) m, m', fine-walk v (step (suc p) m) (closed (suc p) m l lm) (omega arith), lm', back)

    -- no walk to p is shorter than p's entry: from each neighbour the entry rises by at most one
    fine-least : (d p : ℕ) → Walks step k d p → p < n → dist p ≤ d
    fine-least zero p w l = subst (λ (x : ℕ). dist x ≤ 0) (sym w) (omega (arith, fine 0 pos))
    fine-least (suc d) zero w l = omega (arith, fine 0 l)
    fine-least (suc d) (suc p) (p', m, w, lm, e) l =
        let l' : p' < n = walk-in step k n pos closed d p' w in
        let (m', lm', back) = undone p' m l' lm in
        let e' : step (suc p) m' ≡ p' = subst (λ (x : ℕ). step x m' ≡ p') e back in
        omega (arith, (fine (suc p) l).none_below m' lm', ap dist e', fine-least d p' w l')

    pub fine-true : IsTrue step k dist n
    fine-true p l = record { walk = fine-walk (dist p) p l refl; least = λ d w. fine-least d p w l }

  module _ (true : IsTrue step k dist n) where
    -- a neighbour's entry is at least v - 1: its walk comes back
    true_below : (p m : ℕ) → p < n → m < k → dist p ≤ suc (dist (step p m))
    true_below p m l lm =
        let (m', lm', back) = undone p m l lm in
        (true p l).least (suc (dist (step p m))) (step p m, m', (true (step p m) (closed p m l lm)).walk, lm', back)

    -- the last pair but one of a walk of v moves is a neighbour that holds v - 1
    true-one : (p v : ℕ) → p < n → dist p ≡ suc v → Walks step k (suc v) p → (m : ℕ) × (m < k) × (dist (step p m) ≡ v)
    true-one p v l e (p', m, w, lm, s) =
        let l' : p' < n = walk-in step k n pos closed v p' w in
        let (m', lm', back) = undone p' m l' lm in
        let e' : step p m' ≡ p' = subst (λ (x : ℕ). step x m' ≡ p') s back in
        (m', lm', omega (arith, ap dist e', (true p' l').least v w, true_below p m' l lm'))

    true-between : (p v : ℕ) → suc p < n → dist (suc p) ≡ v → Between step k dist (suc p)
    true-between p zero l e = absurd (suc-ne-zero p (subst (λ (d : ℕ). Walks step k d (suc p)) e (true (suc p) l).walk))
    true-between p (suc v) l e =
        let (m, lm, h) = true-one (suc p) v l e (subst (λ (d : ℕ). Walks step k d (suc p)) e (true (suc p) l).walk) in
        record {
          some = omega arith;
          none_below = λ m lm. omega (arith, true_below (suc p) m l lm);
          one_holds = (m, lm, omega arith);
        }

    pub true-fine : (p : ℕ) → p < n → Fine step k dist p
    true-fine zero l = omega (arith, (true 0 l).least 0 refl)
    true-fine (suc p) l = true-between p (dist (suc p)) l refl

  -- the check's law: the rule holds at every pair exactly when every entry is the least number of moves
  pub check-law : ((p : ℕ) → p < n → Fine step k dist p) ↔ IsTrue step k dist n
  check-law = (fine-true, true-fine)
