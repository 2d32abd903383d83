-- The step that two move tables make: it is closed, and can be undone where each move has an inverse move. Assumes nothing.
use mathlib.Core.Path.{◌≡◌, ap₂, ◌∙◌}
use mathlib.Core.List.{List, [], ◌∷◌}
use Prim.Native.Nat.{ℕ, suc, ◌+◌, ◌*◌, ◌/◌, ◌%◌, ◌<◌}
use native.Mathlib.Nat.{suc-mul, mul-pos, mod-lt, div-lt_iff_lt-mul, mul-le-mul_right, mul-add-div_right, mul-add-mod_self_right, div-eq_of_lt, mod-eq_of_lt, div-add-mod'}
use native.Mathlib.Omega.{arith}
use lib.ListN.{length, get_or}
use Rattle.base.specs.Lists.{Under}
use Rattle.base.proofs.Tests.{under_at}
use Rattle.pair_table.specs.Pairs.{next}
use Rattle.pair_table.specs.Tables.{Ready, Inverse, Inverses, Closed, Undone}

-- what holds at each index holds of each element
pub at_under : (n : ℕ) (xs : List ℕ) → ((i : ℕ) → i < length xs → get_or xs i 0 < n) → Under n xs
at_under n [] h = tt
at_under n (x ∷ xs) h = (h 0 (omega arith), at_under n xs (λ i l. h (suc i) (omega arith)))

-- row i, column m of a flat table of a rows and b columns is in the table
pub in_row : (a b i m : ℕ) → i < a → m < b → i * b + m < a * b
in_row a b i m li lm = omega (arith, mul-le-mul_right b li, suc-mul i b)

-- an entry of a flat move table is below its count
pub entry_lt : (t : List ℕ) (n k : ℕ) → length t ≡ n * k → Under n t → (i m : ℕ) → i < n → m < k → get_or t (i * k + m) 0 < n
entry_lt t n k s b i m li lm = under_at n t (i * k + m) b (omega (arith, in_row n k i m li lm))

-- the two coordinates of a pair are below their counts
module _ (n1 n2 : ℕ) (pos : 0 < n2) where
  pub row_lt : (p : ℕ) → p < n1 * n2 → p / n2 < n1
  row_lt p l = (div-lt_iff_lt-mul pos).1 l

  pub col-lt : (p : ℕ) → p % n2 < n2
  col-lt p = mod-lt p pos

-- the two coordinates of the pair (i, j) are i and j
pub row_of : (n2 i j : ℕ) → j < n2 → (i * n2 + j) / n2 ≡ i
row_of n2 i j l = omega (arith, mul-add-div_right {m = n2} (omega arith) i j, div-eq_of_lt l)

pub col-of : (n2 i j : ℕ) → j < n2 → (i * n2 + j) % n2 ≡ j
col-of n2 i j l = mul-add-mod_self_right i n2 j ∙ mod-eq_of_lt l

module _ (t1 t2 : List ℕ) (n1 n2 k : ℕ) (pos : 0 < n2) (s1 : length t1 ≡ n1 * k) (s2 : length t2 ≡ n2 * k) (b1 : Under n1 t1) (b2 : Under n2 t2) where
  pub next-closed : Closed (next t1 t2 n2 k) k (n1 * n2)
  unfolding next
  next-closed p m lp lm =
      in_row n1 n2 _ _ (entry_lt t1 n1 k s1 b1 (p / n2) m (row_lt n1 n2 pos p lp) lm) (entry_lt t2 n2 k s2 b2 (p % n2) m (col-lt n1 n2 pos p) lm)

  -- the inverse move leads back
  next-back : (p m m' : ℕ) → p < n1 * n2 → m < k → Inverse t1 t2 n1 n2 k m m' → next t1 t2 n2 k (next t1 t2 n2 k p m) m' ≡ p
  unfolding next
  next-back p m m' lp lm v =
      let i = p / n2 in
      let j = p % n2 in
      let a = get_or t1 (i * k + m) 0 in
      let b = get_or t2 (j * k + m) 0 in
      let lb : b < n2 = entry_lt t2 n2 k s2 b2 j m (col-lt n1 n2 pos p) lm in
      ap₂ (λ (x y : ℕ). get_or t1 (x * k + m') 0 * n2 + get_or t2 (y * k + m') 0) (row_of n2 a b lb) (col-of n2 a b lb)
      ∙ ap₂ (λ (x y : ℕ). x * n2 + y) (v.first i (row_lt n1 n2 pos p lp)) (v.second j (col-lt n1 n2 pos p))
      ∙ div-add-mod' p n2

  pub next-undone : Inverses t1 t2 n1 n2 k → Undone (next t1 t2 n2 k) k (n1 * n2)
  next-undone inv p m lp lm =
      let (m', v) = inv m lm in
      (m', v.move, next-back p m m' lp lm v)

module _ (t1 t2 tab : List ℕ) (n1 n2 k : ℕ) (r : Ready t1 t2 tab n1 n2 k) where
  -- a table of the same length serves as well
  pub ready-kept : (tab' : List ℕ) → length tab' ≡ length tab → Ready t1 t2 tab' n1 n2 k
  ready-kept tab' e = record {
    counts = r.counts;
    sized = record { first = r.sized.first; second = r.sized.second; pairs = e ∙ r.sized.pairs };
    below1 = r.below1;
    below2 = r.below2;
  }

  pub ready-closed : Closed (next t1 t2 n2 k) k (n1 * n2)
  ready-closed = next-closed t1 t2 n1 n2 k r.counts.pos2 r.sized.first r.sized.second r.below1 r.below2

  pub ready-undone : Inverses t1 t2 n1 n2 k → Undone (next t1 t2 n2 k) k (n1 * n2)
  ready-undone = next-undone t1 t2 n1 n2 k r.counts.pos2 r.sized.first r.sized.second r.below1 r.below2

  -- there is a pair 0
  pub ready-pos : 0 < n1 * n2
  ready-pos = mul-pos r.counts.pos1 r.counts.pos2

-- the step from pair p, by its two rows
pub step-is : (t1 t2 : List ℕ) (n2 k p m i j : ℕ) → i ≡ p / n2 → j ≡ p % n2 → get_or t1 (i * k + m) 0 * n2 + get_or t2 (j * k + m) 0 ≡ next t1 t2 n2 k p m
unfolding next
step-is t1 t2 n2 k p m i j e f = ap₂ (λ (x y : ℕ). get_or t1 (x * k + m) 0 * n2 + get_or t2 (y * k + m) 0) e f
