-- A list that is written over another one, piece after piece. Assumes nothing.
use mathlib.Core.Path.{◌≡◌, refl, sym, ap, ap₂, ◌∙◌}
use mathlib.Core.List.{List, [], ◌∷◌, ◌++◌, append_assoc}
use Prim.Native.Nat.{ℕ, ◌+◌, ◌≤◌, ◌<◌}
use native.Mathlib.Nat.{le_refl}
use native.Mathlib.Numerals.{add-one}
use native.Mathlib.Omega.{arith}
use lib.ListN.{length, take, drop, set, length-append}
use lib.Seq.{length-take-le, take-length, append_snoc, set_split, paste-zero, length-paste}
use Rattle.base.proofs.Steps.{paste-next}
use Rattle.words.specs.Answers.{over}

over-is : (d : List ℕ) (at : ℕ) (s : List ℕ) → over d at s ≡ (take at d ++ s) ++ drop (at + length s) d
over-is d at s = ap (λ (t : List ℕ). (take at d ++ t) ++ drop (at + length s) d) (take-length s)

pub over_nothing : (d : List ℕ) (at : ℕ) → over d at [] ≡ d
over_nothing d at = sym (paste-zero d at [])

pub over_none : (d : List ℕ) (at : ℕ) (s : List ℕ) → length s ≡ 0 → over d at s ≡ d
over_none d at [] e = over_nothing d at
over_none d at (x ∷ s) e = absurd (omega arith)

pub over-length : (d : List ℕ) (at : ℕ) (s : List ℕ) → at + length s ≤ length d → length (over d at s) ≡ length d
over-length d at s h = length-paste d at s (length s) h (le_refl (length s))

-- one piece, and then the next behind it
pub over-append : (d : List ℕ) (at : ℕ) (s t : List ℕ) → at + length s ≤ length d → over (over d at s) (at + length s) t ≡ over d at (s ++ t)
over-append d at s t h =
    let n : length (take at d ++ s) ≡ at + length s = length-append (take at d) s ∙ ap (λ (k : ℕ). k + length s) (length-take-le at d (omega arith)) in
    let e : at + length (s ++ t) ≡ at + length s + length t = omega (arith, length-append s t) in
    paste-next (take at d ++ s) d t (over d at s) (at + length s) (at + length s + length t) n refl (over-is d at s)
    ∙ sym (over-is d at (s ++ t) ∙ ap₂ (λ (l : List ℕ) (k : ℕ). l ++ drop k d) (sym (append_assoc (take at d) s t)) e)

-- one place, and then the rest behind it
pub over-cons : (d : List ℕ) (at x : ℕ) (s : List ℕ) → at < length d → over (set d at x) (at + 1) s ≡ over d at (x ∷ s)
over-cons d at x s h =
    let e : set d at x ≡ over d at (x ∷ []) =
    set_split d at x h ∙ ap (λ (k : ℕ). take at d ++ x ∷ drop k d) (sym (add-one at)) ∙ sym (append_snoc (take at d) x (drop (at + 1) d)) in
    ap (λ (l : List ℕ). over l (at + 1) s) e ∙ over-append d at (x ∷ []) s (omega arith)
