-- What the contract of `first_bad` comes to: it tells whether a table is true, and allows one answer. Assumes nothing.
use mathlib.Core.Path.{◌≡◌, refl, ap}
use mathlib.Core.List.{List}
use mathlib.Core.Logic.{◌↔◌}
use Prim.Native.Nat.{ℕ, ◌*◌, ◌≤◌}
use native.Mathlib.Nat.{le_antisymm, lt_of_not-le}
use native.Mathlib.Decide.{dec_le}
use native.Mathlib.Omega.{arith}
use Rattle.pair_table.specs.Pairs.{next, held, IsTrue, Fine}
use Rattle.pair_table.specs.Tables.{Ready, Inverses}
use Rattle.pruning_table.proofs.Laws.{table-law}
use Rattle.pair_check.specs.Rule.{Tells}
use Rattle.std.proofs.Common.{Option, Some, None}

module _ (t1 t2 tab : List ℕ) (n1 n2 k : ℕ) (r : Ready t1 t2 tab n1 n2 k) (inv : Inverses t1 t2 n1 n2 k) where
  -- `first_bad` answers that the rule holds exactly when the table is true
  pub check-right : (v : Option ℕ) → Tells (Fine (next t1 t2 n2 k) k (held tab)) (n1 * n2) v → (v ≡ None) ↔ IsTrue (next t1 t2 n2 k) k (held tab) (n1 * n2)
  check-right None h = (λ _. (table-law t1 t2 tab n1 n2 k r inv).0 h, λ _. refl)
  check-right (Some p) h = (
    λ e. let z : ◌≡◌ {A = ℕ} 0 1 = cc in absurd (omega arith),
    λ y. absurd (h.2 ((table-law t1 t2 tab n1 n2 k r inv).1 y p h.0)),
  )

-- `first_bad` has one answer
pub tells-one : (P : ℕ → Type 0) (n : ℕ) (v w : Option ℕ) → Tells P n v → Tells P n w → v ≡ w
tells-one P n None None a b = refl
tells-one P n None (Some q) a b = absurd (b.2 (a q b.0))
tells-one P n (Some p) None a b = absurd (a.2 (b p a.0))
tells-one P n (Some p) (Some q) a b = ap Some (le_antisymm (low p q a b) (low q p b a))
  where
    low : (p q : ℕ) → Tells P n (Some p) → Tells P n (Some q) → p ≤ q
    low p q a b = go (dec_le p q)
      where
        go : Dec (p ≤ q) → p ≤ q
        go (yes l) = l
        go (no nl) = absurd (b.2 (a.1 q (lt_of_not-le nl)))
