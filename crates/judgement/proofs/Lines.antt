-- The closing LF of the move line. Assumes nothing.
use mathlib.Core.Path.{◌≡◌, refl}
use mathlib.Core.List.{List, [], ◌∷◌}
use Prim.Native.Nat.{ℕ, ◌-◌}
use native.Mathlib.Omega.{arith}
use lib.ListN.{length, get_or, take}
use lib.Seq.{take-length}
use borrow.Author.Tests.{eq-eqb, ne_eqb}
use Rattle.judgement.specs.Judge.{closed}

pub closed_none : (t : List ℕ) → length t ≡ 0 → [] ≡ closed t
unfolding closed
closed_none [] e = refl
closed_none (x ∷ t) e = absurd (omega arith)

pub closed-lf : (t : List ℕ) → get_or t (length t - 1) 0 ≡ 10 → take (length t - 1) t ≡ closed t
unfolding closed
closed-lf t e = rw (eq-eqb (get_or t (length t - 1) 0) 10 e)

pub closed-other : (t : List ℕ) → (get_or t (length t - 1) 0 ≡ 10 → ⊥) → take (length t) t ≡ closed t
unfolding closed
closed-other t n = rw (ne_eqb (get_or t (length t - 1) 0) 10 n, take-length t)
