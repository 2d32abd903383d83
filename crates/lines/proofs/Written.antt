-- Numbers in decimal, and pieces written one behind the other. Assumes nothing.
use mathlib.Core.Path.{◌≡◌, sym, ap, ◌∙◌}
use mathlib.Core.Bool.{Bool, true, false}
use mathlib.Core.List.{List, [], ◌∷◌, ◌++◌}
use Prim.Native.Nat.{ℕ, zero, suc, ◌+◌, ◌*◌, ◌/◌, ◌%◌, ◌^◌, ◌≤◌, ◌<◌}
use native.Mathlib.Numerals.{unary_clauses}
use native.Mathlib.Omega.{arith}
use lib.Dec.{ltb}
use lib.ListN.{length, set, length-append}
use borrow.Author.Tests.{lt-ltb, le-ltb}
use Rattle.base.specs.Lists.{pick}
use Rattle.words.specs.Answers.{over}
use Rattle.words.proofs.Over.{over_nothing, over-append, over-cons, over-length}
use Rattle.lines.specs.Lines.{decimal_in, decimal}

-- ---- the digits of a number

-- a place more shows no digit more, where the places are enough
places : (k n : ℕ) → n < 10 * 10 ^ k → decimal_in (suc k) n ≡ decimal_in (suc (suc k)) n
unfolding decimal_in
places zero n h = let l : n < 10 = omega arith in rw (lt-ltb n 10 l)
places (suc k) n h =
    let p : 10 ^ suc k ≡ 10 * 10 ^ k = simp unary_clauses (omega arith) in
    let e = places k (n / 10) (omega arith) in
    ap (λ (l : List ℕ). pick (ltb n 10) ((48 + n) ∷ []) (l ++ ((48 + n % 10) ∷ []))) e

pub decimal-one : (n : ℕ) → n < 10 → decimal n ≡ (48 + n) ∷ []
unfolding decimal_in
decimal-one n h = rw (lt-ltb n 10 h)

pub decimal-more : (n : ℕ) → 10 ≤ n → n < 18446744073709551616 → decimal n ≡ decimal (n / 10) ++ ((48 + n % 10) ∷ [])
unfolding decimal_in
decimal-more n l h = rw (le-ltb n 10 l, places 18 (n / 10) (omega arith))

pub digits_more : (n : ℕ) → 10 ≤ n → n < 18446744073709551616 → length (decimal n) ≡ length (decimal (n / 10)) + 1
digits_more n l h = ap length (decimal-more n l h) ∙ length-append (decimal (n / 10)) ((48 + n % 10) ∷ [])

-- as many digits at most as the bound has zeros
pub digits_le : (j k n : ℕ) → n < 10 * 10 ^ j → length (decimal_in k n) ≤ suc j
unfolding decimal_in
digits_le j zero n h = omega arith
digits_le zero (suc k) n h = let l : n < 10 = omega arith in let e = lt-ltb n 10 l in rw e (omega arith)
digits_le (suc j) (suc k) n h =
    let p : 10 ^ suc j ≡ 10 * 10 ^ j = simp unary_clauses (omega arith) in
    go (ltb n 10) (digits_le j k (n / 10) (omega arith))
  where
    go : (b : Bool) → length (decimal_in k (n / 10)) ≤ suc j → length (pick b ((48 + n) ∷ []) (decimal_in k (n / 10) ++ ((48 + n % 10) ∷ []))) ≤ suc (suc j)
    go true i = omega arith
    go false i = omega (arith, length-append (decimal_in k (n / 10)) ((48 + n % 10) ∷ []))

-- ---- one piece behind the other

-- a piece, and the next behind it
pub behind : (d d1 d2 s t : List ℕ) (at a : ℕ) → at + length s ≤ length d → d1 ≡ over d at s → a ≡ at + length s → d2 ≡ over d1 a t → d2 ≡ over d at (s ++ t)
behind d d1 d2 s t at a h e n f = f ∙ ap (λ (l : List ℕ). over l a t) e ∙ ap (λ (k : ℕ). over (over d at s) k t) n ∙ over-append d at s t h

-- a byte as the last
pub last_byte : (d : List ℕ) (at x : ℕ) → at < length d → set d at x ≡ over d at (x ∷ [])
last_byte d at x h = sym (over_nothing (set d at x) (at + 1)) ∙ over-cons d at x [] h

pub over-size : (d e : List ℕ) (at : ℕ) (s : List ℕ) → at + length s ≤ length d → e ≡ over d at s → length e ≡ length d
over-size d e at s h q = ap length q ∙ over-length d at s h

-- how long a line is
pub line-length : (w s : List ℕ) → length (w ++ (s ++ (10 ∷ []))) ≡ length w + length s + 1
line-length w s = omega (arith, length-append w (s ++ (10 ∷ [])), length-append s (10 ∷ []))
