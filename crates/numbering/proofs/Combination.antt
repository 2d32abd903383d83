-- What the loops of `calculate_combo`, `e_combo_to_index` and `index_to_e_combo` do to the numbers and the list. Assumes nothing.
use mathlib.Core.Path.{◌≡◌, refl, sym, ap, ap₂, ◌∙◌}
use mathlib.Core.Bool.{Bool, true, false}
use mathlib.Core.List.{List, [], ◌∷◌, ◌++◌, append-nil}
use Prim.Native.Nat.{ℕ, zero, suc, ◌+◌, ◌-◌, ◌*◌, ◌/◌, ◌≤◌, ◌<◌}
use native.Mathlib.Nat.{mul-le-mul_left, le_refl, sub-zero, not-suc-le-zero}
use native.Mathlib.Numerals.{add-one}
use native.Mathlib.Omega.{arith}
use borrow.Author.Tests.{le-leb, lt-leb}
use lib.Dec.{leb}
use lib.ListN.{length, get_or, drop, set, replicate, length-set, get_or-replicate}
use lib.Seq.{drop-cons, drop-set-lt, get_or-set_same, get_or-set_other, append_snoc}
use Rattle.base.specs.Combo.{choose, combo_number, combo_of}
use Rattle.base.specs.Lists.{pick}
use Rattle.base.specs.Perm.{less, below}
use Rattle.base.proofs.Combo.{choose-small, choose-sum, combo-small}
use Rattle.base.proofs.Perm.{less-is}
use Rattle.base.proofs.Steps.{below-yes, below-no, below_end}

-- a loop that goes down: the place that a turn is at
above : (i : ℕ) → 0 < i → i ≡ suc (i - 1)
above i h = omega arith

-- ---- calculate_combo: its loop is the definition's

pub choose-start : (n : ℕ) → 1 ≡ choose n 0
unfolding choose
choose-start n = refl

module _ (n i result : ℕ) (e : result ≡ choose n i) where
  pub choose-fits : n < 12 → i < 5 → result * (n - i) < 65536
  choose-fits h l =
      let top : n - i ≤ 12 = omega arith in
      let b : result * (n - i) ≤ result * 12 = mul-le-mul_left result top in
      omega (arith, choose-small n i h l)

  pub choose-turn : result * (n - i) / (i + 1) ≡ choose n (i + 1)
  unfolding choose
  choose-turn = ap₂ (λ (r k : ℕ). r * (n - i) / k) e (add-one i) ∙ ap (choose n) (sym (add-one i))

-- ---- e_combo_to_index: of the four pieces, k stand before place i, and their number is still to be added

abbrev pub Counted : List ℕ → ℕ → ℕ → ℕ → Type 0
Counted xs index k i = (i ≤ 12) × (k + below 4 (drop i xs) ≡ 4) × (index + combo_number i k xs ≡ combo_number 12 4 xs)

below-drop : (a i : ℕ) (xs : List ℕ) → below a (drop i xs) ≤ below a xs
below-drop a zero xs = le_refl (below a xs)
below-drop a (suc i) [] = le_refl 0
below-drop a (suc i) (x ∷ xs) = omega (arith, below-drop a i xs)

module _ (xs : List ℕ) (l : length xs ≡ 12) where
  pub count-start : Counted xs 0 4 12
  count-start = (omega arith, omega (arith, below_end 4 xs 12 (omega arith)), omega arith)

  module _ (index k i : ℕ) (h : 0 < i) (inv : Counted xs index k i) where
    combo-at : (b : ℕ) → less (get_or xs (i - 1) 0) 4 ≡ b → combo_number i k xs ≡ b * choose (i - 1) k + combo_number (i - 1) (k - b) xs
    unfolding combo_number
    combo-at b e = ap (λ (n : ℕ). combo_number n k xs) (above i h) ∙ ap (λ (b : ℕ). b * choose (i - 1) k + combo_number (i - 1) (k - b) xs) e

    pub count_yes : below 4 xs ≡ 4 → get_or xs (i - 1) 0 < 4 → (0 < k) × (index + choose (i - 1) k < 495) × Counted xs (index + choose (i - 1) k) (k - 1) (i - 1)
    count_yes four s =
        let e = combo-at 1 (omega (arith, less-is (get_or xs (i - 1) 0) 4)) in
        let b : below 4 (drop (i - 1) xs) ≡ 1 + below 4 (drop i xs) =
        below-yes 4 xs (i - 1) (omega arith) s ∙ ap (λ (j : ℕ). 1 + below 4 (drop j xs)) (add-one (i - 1) ∙ sym (above i h)) in
        let t = below-drop 4 (i - 1) xs in
        let top = combo-small xs l four in
        (omega arith, omega arith, (omega arith, omega arith, omega arith))

    pub count_no : 4 ≤ get_or xs (i - 1) 0 → Counted xs index k (i - 1)
    count_no s =
        let e = combo-at 0 (omega (arith, less-is (get_or xs (i - 1) 0) 4)) in
        let b : below 4 (drop (i - 1) xs) ≡ below 4 (drop i xs) =
        below-no 4 xs (i - 1) (omega arith) s ∙ ap (λ (j : ℕ). below 4 (drop j xs)) (add-one (i - 1) ∙ sym (above i h)) in
        (omega arith, omega arith, omega (arith, ap (λ (n : ℕ). combo_number (i - 1) n xs) (sub-zero k)))

pub count-end : (xs : List ℕ) (index k i : ℕ) → i ≤ 0 → Counted xs index k i → index ≡ combo_number 12 4 xs
unfolding combo_number
count-end xs index k zero h inv = omega (arith, inv.2)
count-end xs index k (suc i) h inv = absurd (not-suc-le-zero h)

-- ---- index_to_e_combo: the places before i hold a 4 still, and are to hold what rest says of k pieces

abbrev pub Filling : ℕ → List ℕ → ℕ → ℕ → ℕ → Type 0
Filling index combo rest k i =
    (i ≤ 12) × (k ≤ 4) × (length combo ≡ 12) × (rest < choose i k) × ((j : ℕ) → j < i → get_or combo j 0 ≡ 4)
    × (combo_of i k rest ++ drop i combo ≡ combo_of 12 4 index)

pub fill_start : (index : ℕ) → index < 495 → Filling index (replicate 12 4) index 4 12
unfolding choose
fill_start index h = (omega arith, omega arith, refl, h, (λ j t. get_or-replicate 12 j 4 0 t), append-nil (combo_of 12 4 index))

-- a piece at place j: one was left, and Pascal's sum leaves a number for the other pieces
choose-left : (j k rest : ℕ) → j < 12 → k ≤ 4 → rest < choose (suc j) k → choose j k ≤ rest → (0 < k) × (rest - choose j k < choose j (k - 1))
choose-left j zero rest h l s t = absurd (omega (arith, choose-start (suc j), choose-start j))
choose-left j (suc k) rest h l s t =
    let e : suc k - 1 ≡ k = omega arith in
    let f = choose-sum j k h (omega arith) in
    (omega arith, rw e (omega arith))

module _ (index : ℕ) (combo : List ℕ) (rest k i : ℕ) (h : 0 < i) (inv : Filling index combo rest k i) where
  here : i - 1 < length combo
  here = omega arith

  of_at : (b : Bool) → leb (choose (i - 1) k) rest ≡ b
      → combo_of i k rest ≡ pick b (combo_of (i - 1) (k - 1) (rest - choose (i - 1) k) ++ ((k - 1) ∷ [])) (combo_of (i - 1) k rest ++ (4 ∷ []))
  unfolding combo_of
  of_at b e =
      ap (λ (n : ℕ). combo_of n k rest) (above i h)
      ∙ ap (λ (b : Bool). pick b (combo_of (i - 1) (k - 1) (rest - choose (i - 1) k) ++ ((k - 1) ∷ [])) (combo_of (i - 1) k rest ++ (4 ∷ []))) e

  -- v goes to place i - 1
  put : (front t : List ℕ) (v : ℕ) → combo_of i k rest ≡ front ++ (v ∷ []) → drop (i - 1) t ≡ v ∷ drop i combo → front ++ drop (i - 1) t ≡ combo_of 12 4 index
  put front t v e d =
      ap (λ (r : List ℕ). front ++ r) d
      ∙ sym (append_snoc front v (drop i combo))
      ∙ ap (λ (r : List ℕ). r ++ drop i combo) (sym e)
      ∙ inv.5

  pub fill-yes : choose (i - 1) k ≤ rest → (0 < k) × Filling index (set combo (i - 1) (k - 1)) (rest - choose (i - 1) k) (k - 1) (i - 1)
  fill-yes l =
      let t = set combo (i - 1) (k - 1) in
      let len : length t ≡ 12 = length-set combo (i - 1) (k - 1) ∙ inv.2 in
      let small : rest < choose (suc (i - 1)) k = rw (← above i h) inv.3 in
      let p = choose-left (i - 1) k rest (omega arith) inv.1 small l in
      let tail : drop (i - 1) t ≡ (k - 1) ∷ drop i combo =
      drop-cons t (i - 1) 0 (omega arith)
      ∙ ap₂ (λ (x : ℕ) (r : List ℕ). x ∷ r) (get_or-set_same combo (i - 1) (k - 1) 0 here)
      (ap (λ (j : ℕ). drop j t) (sym (above i h)) ∙ drop-set-lt i combo (i - 1) (k - 1) (omega arith)) in (
        p.0,
        (
          omega arith,
          omega arith,
          len,
          p.1,
          (λ j u. get_or-set_other combo (i - 1) j (k - 1) 0 (λ e. omega arith) ∙ inv.4 j (omega arith)),
          put (combo_of (i - 1) (k - 1) (rest - choose (i - 1) k)) t (k - 1) (of_at true (le-leb _ _ l)) tail,
        ),
      )

  pub fill-no : rest < choose (i - 1) k → Filling index combo rest k (i - 1)
  fill-no l =
      let tail : drop (i - 1) combo ≡ 4 ∷ drop i combo =
      drop-cons combo (i - 1) 0 here ∙ ap₂ (λ (x j : ℕ). x ∷ drop j combo) (inv.4 (i - 1) (omega arith)) (sym (above i h)) in (
        omega arith,
        inv.1,
        inv.2,
        l,
        (λ j u. inv.4 j (omega arith)),
        put (combo_of (i - 1) k rest) combo 4 (of_at false (lt-leb _ _ l)) tail,
      )

pub fill_end : (index : ℕ) (combo : List ℕ) (rest k i : ℕ) → i ≤ 0 → Filling index combo rest k i → combo ≡ combo_of 12 4 index
unfolding combo_of
fill_end index combo rest k zero h inv = inv.5
fill_end index combo rest k (suc i) h inv = absurd (not-suc-le-zero h)
