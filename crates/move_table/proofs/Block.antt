-- The six tables, each written behind those before it, make up the block. Assumes nothing.
use mathlib.Core.Path.{◌≡◌, refl, sym, ap, ap₂, ◌∙◌}
use mathlib.Core.List.{List, [], ◌++◌, append_assoc, append-nil}
use Prim.Native.Nat.{ℕ, ◌+◌}
use native.Mathlib.Omega.{arith}
use lib.ListN.{length, drop, length-append, drop_of_length-le}
use lib.Seq.{paste}
use Rattle.base.proofs.Steps.{paste-next}
use Rattle.move_table.specs.Layout.{move_block}
use Rattle.move_row.specs.Tables.{table_at, true_table}
use Rattle.move_table.proofs.Rows.{table-length}

-- `paste`, kept shut: with numerals this large a list is not to be computed
unfoldable pub paste_at : List ℕ → ℕ → List ℕ → ℕ → List ℕ
paste_at d at s n = paste d at s n

-- a table pasted, its number, place and length by equations
pub table-pasted : (s p d v : List ℕ) (t at n k a m : ℕ) → p ≡ paste s at (true_table (table_at t)) n → p ≡ v → s ≡ d → t ≡ k → at ≡ a → n ≡ m
    → v ≡ paste_at d a (true_table (table_at k)) m
unfolding paste_at
table-pasted s p d v t at n k a m h e f g i j =
    sym e ∙ h ∙ ap₂ (λ (l : List ℕ) (x : ℕ). paste l at (true_table (table_at x)) n) f g ∙ ap₂ (λ (x y : ℕ). paste d x (true_table (table_at k)) y) i j

-- s, of n entries, pasted behind what was pasted before
behind : (front d s e : List ℕ) (at n k : ℕ) → length front ≡ at → length s ≡ n → at + n ≡ k → e ≡ front ++ drop at d
    → (paste_at e at s n ≡ (front ++ s) ++ drop k d) × (length (front ++ s) ≡ k)
unfolding paste_at
behind front d s e at n k l m f h = (
  ap (λ (i : ℕ). paste e at s i) (sym m) ∙ paste-next front d s e at k l (omega arith) h,
  length-append front s ∙ omega arith,
)

-- six lists that fill d
module _ (a b c d e f : List ℕ) (la : length a ≡ 39366) (lb : length b ≡ 36864) (lc : length c ≡ 8910) (ld : length d ≡ 403200) (le : length e ≡ 403200)
    (lf : length f ≡ 240) where
  pasted : (s p q r t u v : List ℕ) → length s ≡ 891780 → p ≡ paste_at s 0 a 39366 → q ≡ paste_at p 39366 b 36864 → r ≡ paste_at q 76230 c 8910
      → t ≡ paste_at r 85140 d 403200 → u ≡ paste_at t 488340 e 403200 → v ≡ paste_at u 891540 f 240 → v ≡ a ++ (b ++ (c ++ (d ++ (e ++ f))))
  pasted s p q r t u v l ep eq er et eu ev =
      let one = behind [] s a s 0 39366 39366 refl la (omega arith) refl in
      let two = behind a s b p 39366 36864 76230 la lb (omega arith) (ep ∙ one.0) in
      let three = behind (a ++ b) s c q 76230 8910 85140 two.1 lc (omega arith) (eq ∙ two.0) in
      let four = behind ((a ++ b) ++ c) s d r 85140 403200 488340 three.1 ld (omega arith) (er ∙ three.0) in
      let five = behind (((a ++ b) ++ c) ++ d) s e t 488340 403200 891540 four.1 le (omega arith) (et ∙ four.0) in
      let six = behind ((((a ++ b) ++ c) ++ d) ++ e) s f u 891540 240 891780 five.1 lf (omega arith) (eu ∙ five.0) in
      let all : List ℕ = ((((a ++ b) ++ c) ++ d) ++ e) ++ f in
      let none : drop 891780 s ≡ [] = drop_of_length-le s {i = 891780} (omega arith) in
      ev ∙ six.0 ∙ ap (λ (z : List ℕ). all ++ z) none ∙ append-nil all ∙ simp append_assoc

-- the six tables fill s
pub block-pasted : (s p q r t u v : List ℕ) → length s ≡ 891780 → p ≡ paste_at s 0 (true_table (table_at 0)) 39366
    → q ≡ paste_at p 39366 (true_table (table_at 1)) 36864 → r ≡ paste_at q 76230 (true_table (table_at 2)) 8910
    → t ≡ paste_at r 85140 (true_table (table_at 3)) 403200 → u ≡ paste_at t 488340 (true_table (table_at 4)) 403200
    → v ≡ paste_at u 891540 (true_table (table_at 5)) 240 → v ≡ move_block
unfolding move_block
block-pasted =
    pasted (true_table (table_at 0)) (true_table (table_at 1)) (true_table (table_at 2)) (true_table (table_at 3)) (true_table (table_at 4)) (true_table (table_at 5))
    (table-length (table_at 0)) (table-length (table_at 1)) (table-length (table_at 2)) (table-length (table_at 3)) (table-length (table_at 4)) (table-length (table_at 5))
