-- The 18 words, and the number of a word. What is said of each move is computed once for all 18. Assumes nothing.
use mathlib.Core.Path.{◌≡◌, refl, sym, ap, ap₂, ◌∙◌}
use mathlib.Core.Bool.{Bool, true, false, cond, ◌&&◌}
use mathlib.Core.List.{List, [], ◌∷◌, map}
use Prim.Native.Nat.{ℕ, zero, suc, ◌+◌, ◌-◌, ◌*◌, ◌/◌, ◌%◌, ◌≤◌, ◌<◌}
use native.Mathlib.Nat.{le_of_suc-le-suc, not-suc-le-zero}
use native.Mathlib.Omega.{arith}
use lib.Dec.{ltb, leb, eqb}
use lib.ListN.{length, get_or, drop, get_or-map, drop_of_length-le}
use borrow.Author.Tests.{eqb-true, eqb-false, eq-eqb, ne_eqb, ltb-true, ltb-false, leb-true}
use Rattle.std.specs.Prelude.{Some, None}
use Rattle.std.specs.List.{position, position_or_len}
use Rattle.std.proofs.lemmas.List.Recursion.{is_position_or_len}
use Rattle.base.specs.Lists.{pick, range, same_list}
use Rattle.base.proofs.Steps.{next}
use Rattle.base.proofs.Tests.{and-true, below_true, same_list-is}
use Rattle.words.specs.Text.{letters, marks, word_of, place, number_of}

-- ---- the place of the first that passes a test

module _ {A : Type 0} (p : A → Bool) where
  pub place-le : (xs : List A) → place p xs ≤ length xs
  unfolding place
  place-le [] = omega arith
  place-le (x ∷ xs) = go (p x) (place-le xs)
    where
      go : (b : Bool) → place p xs ≤ length xs → pick b 0 (suc (place p xs)) ≤ suc (length xs)
      go true h = omega arith
      go false h = omega arith

  pub place-yes : (d : A) (xs : List A) → place p xs < length xs → p (get_or xs (place p xs) d) ≡ true
  unfolding place
  place-yes d [] h = absurd (not-suc-le-zero h)
  place-yes d (x ∷ xs) h = go (p x) (λ l. place-yes d xs l) refl h
    where
      go : (b : Bool) → (place p xs < length xs → p (get_or xs (place p xs) d) ≡ true) → p x ≡ b → pick b 0 (suc (place p xs)) < suc (length xs) → p (get_or (x ∷ xs) (pick b 0 (suc (place p xs))) d) ≡ true
      go true f e l = e
      go false f e l = f (le_of_suc-le-suc l)

module _ (p : ℕ → Bool) (s : List ℕ) (i : ℕ) where
  place_at : (b : Bool) → i < length s → p (get_or s i 0) ≡ b → place p (drop i s) ≡ pick b 0 (suc (place p (drop (i + 1) s)))
  unfolding place
  place_at b h e = ap (place p) (next s i h) ∙ ap (λ (t : Bool). pick t 0 (suc (place p (drop (i + 1) s)))) e

  pub place-stop : i < length s → p (get_or s i 0) ≡ true → place p (drop i s) ≡ 0
  place-stop h e = place_at true h e

  pub place-step : i < length s → p (get_or s i 0) ≡ false → place p (drop i s) ≡ suc (place p (drop (i + 1) s))
  place-step h e = place_at false h e

  pub place_end : length s ≤ i → place p (drop i s) ≡ 0
  unfolding place
  place_end h = ap (place p) (drop_of_length-le s h)

pub either-way : (a b : ℕ) → eqb a b ≡ eqb b a
either-way a b = go (eqb a b) refl
  where
    go : (t : Bool) → eqb a b ≡ t → t ≡ eqb b a
    go true e = sym (eq-eqb b a (sym (eqb-true a b e)))
    go false e = sym (ne_eqb b a (λ h. eqb-false a b e (sym h)))

-- the library's place of the first byte b
pub first-is : (b : ℕ) (xs : List ℕ) → place (eqb b) xs ≡ position_or_len (λ x. eqb x b) xs
unfolding place
first-is b xs = is_position_or_len (place (eqb b)) (λ x. eqb x b) refl (λ x ys. ap (λ (t : Bool). pick t 0 (suc (place (eqb b) ys))) (either-way b x) ∙ go (eqb x b) (place (eqb b) ys)) xs
  where
    go : (t : Bool) (n : ℕ) → pick t 0 (suc n) ≡ cond t 0 (1 + n)
    go true n = refl
    go false n = omega arith

pub first-some : (b i : ℕ) (xs : List ℕ) → position (λ x. eqb x b) xs ≡ Some i → (place (eqb b) xs ≡ i) × (i < length xs)
first-some b i xs e = go (ltb n (length xs)) refl e
  where
    n : ℕ
    n = position_or_len (λ x. eqb x b) xs

    go : (t : Bool) → ltb n (length xs) ≡ t → cond t (Some n) None ≡ Some i → (place (eqb b) xs ≡ i) × (i < length xs)
    go true l q = let m : n ≡ i = cc in (first-is b xs ∙ m, omega (arith, ltb-true n (length xs) l))
    go false l q = cc

pub first-none : (b : ℕ) (xs : List ℕ) → position (λ x. eqb x b) xs ≡ None → length xs ≤ place (eqb b) xs
first-none b xs e = go (ltb n (length xs)) refl e
  where
    n : ℕ
    n = position_or_len (λ x. eqb x b) xs

    go : (t : Bool) → ltb n (length xs) ≡ t → cond t (Some n) None ≡ None → length xs ≤ place (eqb b) xs
    go true l q = cc
    go false l q = omega (arith, first-is b xs, ltb-false n (length xs) l)

-- ---- the number of a word

-- each move's word has its number
pub number_word : (m : ℕ) → m < 18 → number_of (word_of m) ≡ m
unfolding number_of word_of place range same_list
number_word m h = eqb-true _ _ (below_true (λ k. eqb (number_of (word_of k)) k) 18 refl m h)

range_at : (m : ℕ) → m < 18 → get_or (range 0 18) m 0 ≡ m
unfolding range
range_at m h = eqb-true _ _ (below_true (λ k. eqb (get_or (range 0 18) k 0) k) 18 refl m h)

pub number-le : (w : List ℕ) → number_of w ≤ 18
unfolding number_of range
number-le w = place-le (same_list w) (map word_of (range 0 18))

-- a word that has a move's number is that move's word
pub word_number : (w : List ℕ) → number_of w < 18 → w ≡ word_of (number_of w)
unfolding number_of range
word_number w h =
    same_list-is w _ (place-yes (same_list w) (word_of 0) (map word_of (range 0 18)) h)
    ∙ get_or-map word_of (range 0 18) (number_of w) 0
    ∙ ap word_of (range_at (number_of w) h)

-- ---- the bytes of a move's word

pub word-one : (m : ℕ) → m % 3 ≡ 0 → word_of m ≡ get_or letters (m / 3) 0 ∷ []
unfolding word_of
word-one m e = ap (λ (k : ℕ). get_or letters (m / 3) 0 ∷ get_or marks k []) e

pub word_two : (m : ℕ) → (m % 3 ≡ 0 → ⊥) → word_of m ≡ get_or letters (m / 3) 0 ∷ get_or (50 ∷ 39 ∷ []) (m % 3 - 1) 0 ∷ []
unfolding word_of
word_two m n = ap (λ (l : List ℕ). get_or letters (m / 3) 0 ∷ l) (go (m % 3) (omega arith) n)
  where
    go : (k : ℕ) → k < 3 → (k ≡ 0 → ⊥) → get_or marks k [] ≡ get_or (50 ∷ 39 ∷ []) (k - 1) 0 ∷ []
    go zero l f = absurd (f refl)
    go (suc zero) l f = refl
    go (suc (suc zero)) l f = refl
    go (suc (suc (suc k))) l f = absurd (omega arith)

pub word-short : (m : ℕ) → length (word_of m) ≤ 2
unfolding word_of
word-short m = go (m % 3)
  where
    go : (k : ℕ) → suc (length (get_or marks k [])) ≤ 2
    go zero = omega arith
    go (suc zero) = omega arith
    go (suc (suc zero)) = omega arith
    go (suc (suc (suc k))) = omega arith

-- ---- what `number_of` finds at the bytes of a word

-- the layer's letter, and at most one byte more, which is a mark
shaped : List ℕ → Bool
shaped w = ltb (place (eqb (get_or w 0 0)) letters) 6 && (leb (length w) 2 && ltb (pick (eqb (length w) 2) (place (eqb (get_or w 1 0)) (50 ∷ 39 ∷ [])) 0) 2)

pub record Shape (w : List ℕ) : Type 0 where
  pub letter : place (eqb (get_or w 0 0)) letters < 6
  pub short : length w ≤ 2
  pub mark : pick (eqb (length w) 2) (place (eqb (get_or w 1 0)) (50 ∷ 39 ∷ [])) 0 < 2

shape : (w : List ℕ) → number_of w < 18 → Shape w
unfolding shaped word_of place
shape w h =
    let e = below_true (λ k. shaped (word_of k)) 18 refl (number_of w) h in
    let f : shaped w ≡ true = ap shaped (word_number w h) ∙ e in
    let a = and-true _ _ f in
    let b = and-true _ _ a.1 in
    record { letter = ltb-true _ _ a.0; short = leb-true _ _ b.0; mark = ltb-true _ _ b.1 }

pub no_word : (w : List ℕ) → (Shape w → ⊥) → 18 ≡ number_of w
no_word w n = let k : number_of w < 18 → ⊥ = λ h. n (shape w h) in omega (arith, number-le w)

-- a letter and the mark t
pub is_word : (a t : ℕ) → place (eqb a) letters < 6 → t < 3 → place (eqb a) letters * 3 + t ≡ number_of (a ∷ get_or marks t [])
unfolding word_of
is_word a t h k =
    let l = place (eqb a) letters in
    let q : (l * 3 + t) / 3 ≡ l = omega arith in
    let r : (l * 3 + t) % 3 ≡ t = omega arith in
    let e : word_of (l * 3 + t) ≡ a ∷ get_or marks t [] =
    ap₂ (λ (i j : ℕ). get_or letters i 0 ∷ get_or marks j []) q r ∙ ap (λ (b : ℕ). b ∷ get_or marks t []) (sym (eqb-true a (get_or letters l 0) (place-yes (eqb a) 0 letters h))) in
    sym (number_word (l * 3 + t) (omega arith)) ∙ ap number_of e

pub no_bytes : (w : List ℕ) → length w ≡ 0 → 18 ≡ number_of w
unfolding number_of word_of place range same_list
no_bytes [] e = refl
no_bytes (a ∷ w) e = absurd (omega arith)

pub one_byte : (w : List ℕ) → length w ≡ 1 → w ≡ get_or w 0 0 ∷ []
one_byte [] e = absurd (omega arith)
one_byte (a ∷ []) e = refl
one_byte (a ∷ b ∷ w) e = absurd (omega arith)

pub two_bytes : (w : List ℕ) → length w ≡ 2 → w ≡ get_or w 0 0 ∷ get_or w 1 0 ∷ []
two_bytes [] e = absurd (omega arith)
two_bytes (a ∷ w) e = ap (λ (l : List ℕ). a ∷ l) (one_byte w (omega arith))
