-- What one turn of a loop that goes up a list does to what is left of the list. Assumes nothing.
use mathlib.Core.Path.{◌≡◌, refl, sym, ap, ap₂, ◌∙◌}
use mathlib.Core.Bool.{Bool, true, false, ◌&&◌}
use mathlib.Core.List.{List, [], ◌∷◌, ◌++◌, append-nil}
use Prim.Native.Nat.{ℕ, suc, ◌+◌, ◌-◌, ◌*◌, ◌≤◌, ◌<◌}
use native.Mathlib.Decide.{le_ind}
use native.Mathlib.Nat.{le_refl, le_trans, suc-mul, add-mul, mul_assoc, le-mul_of_pos_right}
use native.Mathlib.Numerals.{add-one}
use native.Mathlib.Omega.{arith}
use lib.Dec.{ltb, eqb}
use lib.ListN.{length, get_or, take, drop, set, drop_of_length-le, length-drop}
use lib.Seq.{drop-cons, drop-drop, drop-append-add, take_all, take_at, take-length, take-suc, take-suc-set, paste}
use borrow.Author.Tests.{lt-ltb, le-ltb, eq-eqb, ne_eqb}
use Rattle.base.specs.Lists.{in_range, same_list, total}
use Rattle.base.specs.Perm.{below, fact, number}
use Rattle.base.proofs.Perm.{less-is, fact-pos, number_lt}

pub next : (s : List ℕ) (i : ℕ) → i < length s → drop i s ≡ get_or s i 0 ∷ drop (i + 1) s
next s i h = drop-cons s i 0 h ∙ ap (λ (k : ℕ). get_or s i 0 ∷ drop k s) (sym (add-one i))

-- a loop that writes a list from its front: what is written is the front of what it is to be
module _ (out goal : List ℕ) (i : ℕ) (l : length goal ≡ length out) (e : take i out ≡ take i goal) where
  pub written-more : (v : ℕ) → i < length out → v ≡ get_or goal i 0 → take (i + 1) (set out i v) ≡ take (i + 1) goal
  written-more v h w =
      ap (λ (k : ℕ). take k (set out i v)) (add-one i)
      ∙ take-suc-set out i v h
      ∙ ap₂ (λ (f : List ℕ) (x : ℕ). f ++ (x ∷ [])) e w
      ∙ sym (take-suc goal i 0 (omega arith))
      ∙ ap (λ (k : ℕ). take k goal) (sym (add-one i))

  pub written_all : length out ≤ i → out ≡ goal
  written_all h = sym (take_all i out h) ∙ e ∙ take_all i goal (omega arith)

-- pasted over all of it, and pasted behind what was pasted before
pub paste-whole : (d s : List ℕ) → length s ≡ length d → paste d 0 s (length s) ≡ s
paste-whole d s l =
    ap₂ (λ (a b : List ℕ). a ++ b) (take-length s) (drop_of_length-le d {i = 0 + length s} (omega arith)) ∙ append-nil s

pub paste-next : (front d s e : List ℕ) (at k : ℕ) → length front ≡ at → at + length s ≡ k → e ≡ front ++ drop at d → paste e at s (length s) ≡ (front ++ s) ++ drop k d
paste-next front d s e at k l m h =
    ap (λ (t : List ℕ). paste t at s (length s)) h
    ∙ ap₂ (λ (a b : List ℕ). (a ++ take (length s) s) ++ b) (take_at front (drop at d) at l)
    (ap (λ (n : ℕ). drop (n + length s) (front ++ drop at d)) (sym l) ∙ drop-append-add front (drop at d) (length s) ∙ drop-drop (length s) at d)
    ∙ ap₂ (λ (t : List ℕ) (n : ℕ). (front ++ t) ++ drop n d) (take-length s) m

-- total
pub total-step : (g : ℕ → ℕ) (s : List ℕ) (i : ℕ) → i < length s → total g (drop i s) ≡ g (get_or s i 0) + total g (drop (i + 1) s)
total-step g s i h = ap (total g) (next s i h)

-- same_list
pub same-sizes : (a b : List ℕ) → (length a ≡ length b → ⊥) → false ≡ same_list a b
unfolding same_list
same-sizes [] [] h = absurd (h refl)
same-sizes [] (y ∷ b) h = refl
same-sizes (x ∷ a) [] h = refl
same-sizes (x ∷ a) (y ∷ b) h = go (eqb x y) (same-sizes a b (λ e. h (ap suc e)))
  where
    go : (t : Bool) → false ≡ same_list a b → false ≡ t && same_list a b
    go true e = e
    go false e = refl

module _ (a b : List ℕ) (i : ℕ) where
  same_at : (t : Bool) → i < length a → i < length b → eqb (get_or a i 0) (get_or b i 0) ≡ t → same_list (drop i a) (drop i b) ≡ t && same_list (drop (i + 1) a) (drop (i + 1) b)
  unfolding same_list
  same_at t h k e = ap₂ same_list (next a i h) (next b i k) ∙ ap (λ (u : Bool). u && same_list (drop (i + 1) a) (drop (i + 1) b)) e

  pub same_step : i < length a → i < length b → get_or a i 0 ≡ get_or b i 0 → same_list (drop (i + 1) a) (drop (i + 1) b) ≡ same_list (drop i a) (drop i b)
  same_step h k e = sym (same_at true h k (eq-eqb _ _ e))

  pub same_stop : i < length a → i < length b → (get_or a i 0 ≡ get_or b i 0 → ⊥) → false ≡ same_list (drop i a) (drop i b)
  same_stop h k n = sym (same_at false h k (ne_eqb _ _ n))

  pub same_end : length a ≤ i → length b ≤ i → true ≡ same_list (drop i a) (drop i b)
  unfolding same_list
  same_end h k = sym (ap₂ same_list (drop_of_length-le a h) (drop_of_length-le b k))

-- in_range
module _ (n : ℕ) (s : List ℕ) (i : ℕ) where
  range_at : (b : Bool) → i < length s → ltb (get_or s i 0) n ≡ b → in_range n (drop i s) ≡ b && in_range n (drop (i + 1) s)
  range_at b h e = ap (in_range n) (next s i h) ∙ ap (λ (t : Bool). t && in_range n (drop (i + 1) s)) e

  pub range-step : i < length s → get_or s i 0 < n → in_range n (drop (i + 1) s) ≡ in_range n (drop i s)
  range-step h l = sym (range_at true h (lt-ltb _ _ l))

  pub range-stop : i < length s → n ≤ get_or s i 0 → false ≡ in_range n (drop i s)
  range-stop h l = sym (range_at false h (le-ltb _ _ l))

  pub range-end : length s ≤ i → true ≡ in_range n (drop i s)
  range-end h = sym (ap (in_range n) (drop_of_length-le s h))

-- below
module _ (x : ℕ) (s : List ℕ) (j : ℕ) where
  pub below-yes : j < length s → get_or s j 0 < x → below x (drop j s) ≡ 1 + below x (drop (j + 1) s)
  below-yes h l = omega (arith, ap (below x) (next s j h), less-is (get_or s j 0) x)

  pub below-no : j < length s → x ≤ get_or s j 0 → below x (drop j s) ≡ below x (drop (j + 1) s)
  below-no h l = omega (arith, ap (below x) (next s j h), less-is (get_or s j 0) x)

  pub below_end : length s ≤ j → below x (drop j s) ≡ 0
  below_end h = ap (below x) (drop_of_length-le s h)

-- number
fact-step : (n : ℕ) → fact n ≤ fact (suc n)
fact-step n = omega (arith, suc-mul n (fact n))

fact_mono : {m n : ℕ} → m ≤ n → fact m ≤ fact n
fact_mono {m} {n} h = le_ind (λ (k : ℕ). fact m ≤ fact k) (le_refl (fact m)) (λ k l r. le_trans r (fact-step k)) n h

module _ (s : List ℕ) (i index : ℕ) (h : i < length s) (inv : index * fact (length s - i) + number (drop i s) ≡ number s) where
  pub number_step : (index * (length s - i) + below (get_or s i 0) (drop (i + 1) s)) * fact (length s - (i + 1)) + number (drop (i + 1) s) ≡ number s
  number_step =
      let m = length s - (i + 1) in
      let b = below (get_or s i 0) (drop (i + 1) s) in
      let t = drop (i + 1) s in
      let l : length s - i ≡ suc m = omega arith in
      let d : number (drop i s) ≡ b * fact m + number t =
      ap number (next s i h) ∙ ap (λ (k : ℕ). b * fact k + number t) (length-drop (i + 1) s) in
      let e : index * (suc m * fact m) + (b * fact m + number t) ≡ number s = ap₂ (λ (k r : ℕ). index * fact k + r) (sym l) (sym d) ∙ inv in
      let f : (index * suc m + b) * fact m ≡ index * (suc m * fact m) + b * fact m =
      add-mul (index * suc m) b (fact m) ∙ ap (λ (k : ℕ). k + b * fact m) (mul_assoc index (suc m) (fact m)) in
      ap (λ (k : ℕ). (index * k + b) * fact m + number t) l ∙ omega arith

  pub number_fits : length s ≤ 12 → index * (length s - i) + below (get_or s i 0) (drop (i + 1) s) < 479001600
  number_fits k =
      let x = index * (length s - i) + below (get_or s i 0) (drop (i + 1) s) in
      let top : fact (length s) ≤ 479001600 = fact_mono k in
      omega (arith, number_step, number_lt s, le-mul_of_pos_right x (fact-pos (length s - (i + 1))))

pub number-end : (s : List ℕ) (i index : ℕ) → i ≤ length s → length s ≤ i → index * fact (length s - i) + number (drop i s) ≡ number s → index ≡ number s
number-end s i index h k inv =
    let z : length s - i ≡ 0 = omega arith in
    let e : index * 1 + 0 ≡ number s = ap₂ (λ (n r : ℕ). index * fact n + r) (sym z) (sym (ap number (drop_of_length-le s k))) ∙ inv in
    omega arith
