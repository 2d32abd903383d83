-- A text and its list of moves: the round trips, and what one turn of each loop does. Assumes nothing.
use mathlib.Core.Path.{◌≡◌, refl, sym, ap, ap₂, ◌∙◌}
use mathlib.Core.Bool.{Bool, true, false, ◌&&◌}
use mathlib.Core.List.{List, [], ◌∷◌, ◌++◌, map, append-nil}
use Prim.Native.Nat.{ℕ, suc, ◌+◌, ◌-◌, ◌≤◌, ◌<◌}
use native.Mathlib.Omega.{arith}
use lib.Dec.{ltb, leb, eqb, leb-zero, leb-suc-suc}
use lib.ListN.{length, get_or, take, drop, length-append, length-drop, drop_of_length-le}
use lib.Seq.{drop-drop}
use borrow.Author.Tests.{eqb-true, leb-true, leb-false, le-leb, lt-leb, lt-ltb, le-ltb}
use Rattle.base.specs.Lists.{pick, Each, Under, in_range, range, same_list, total}
use Rattle.base.proofs.Steps.{next}
use Rattle.base.proofs.Tests.{below_true}
use Rattle.words.specs.Text.{word_of, place, number_of, spaced, join, text_of, onto, split, words_of, parse}
use Rattle.words.proofs.Words.{place-le, number_word, word_number}

-- ---- words and spaces

-- a word with no space in it
abbrev Free : List ℕ → Type 0
Free w = place (eqb 32) w ≡ length w

word-free : (m : ℕ) → m < 18 → Free (word_of m)
unfolding word_of place
word-free m h = eqb-true _ _ (below_true (λ k. eqb (place (eqb 32) (word_of k)) (length (word_of k))) 18 refl m h)

words-free : (ms : List ℕ) → Under 18 ms → Each Free (map word_of ms)
words-free [] u = tt
words-free (m ∷ ms) u = (word-free m u.0, words-free ms u.1)

-- a word before what starts with a space, or is empty
split-word : (w t : List ℕ) (vs : List (List ℕ)) → Free w → split t ≡ [] ∷ vs → split (w ++ t) ≡ w ∷ vs
unfolding split onto place
split-word [] t vs f e = e
split-word (c ∷ w) t vs f e = go (eqb 32 c) f (λ g. split-word w t vs g e)
  where
    go : (b : Bool) → pick b 0 (suc (place (eqb 32) w)) ≡ suc (length w) → (Free w → split (w ++ t) ≡ w ∷ vs) → pick b ([] ∷ split (w ++ t)) (onto c (split (w ++ t))) ≡ (c ∷ w) ∷ vs
    go true q h = absurd (omega arith)
    go false q h = ap (onto c) (h (omega arith))

-- words with spaces are cut into these words
split-words : (ws : List (List ℕ)) → Each Free ws → split (spaced ws) ≡ [] ∷ ws
unfolding split spaced
split-words [] u = refl
split-words (v ∷ ws) u = ap (λ (l : List (List ℕ)). [] ∷ l) (split-word v (spaced ws) ws u.0 (split-words ws u.1))

-- the first word ends at the first space
split_at : (t : List ℕ) → split t ≡ take (place (eqb 32) t) t ∷ pick (ltb (place (eqb 32) t) (length t)) (split (drop (suc (place (eqb 32) t)) t)) []
unfolding split onto place
split_at [] = refl
split_at (c ∷ t) = go (place (eqb 32) t) (eqb 32 c) (split_at t)
  where
    go : (k : ℕ) (b : Bool) → split t ≡ take k t ∷ pick (ltb k (length t)) (split (drop (suc k) t)) [] → pick b ([] ∷ split t) (onto c (split t)) ≡ take (pick b 0 (suc k)) (c ∷ t) ∷ pick (ltb (pick b 0 (suc k)) (suc (length t))) (split (drop (suc (pick b 0 (suc k))) (c ∷ t))) []
    go k true e = ap (λ (b : Bool). [] ∷ pick b (split t) []) (sym (lt-ltb 0 (suc (length t)) (omega arith)))
    go k false e = ap (onto c) e ∙ ap (λ (b : Bool). (c ∷ take k t) ∷ pick b (split (drop (suc k) t)) []) (sym (leb-suc-suc (suc k) (length t)))

split-some : (t : List ℕ) → 0 < length (split t)
unfolding split onto
split-some [] = omega arith
split-some (c ∷ t) = go (eqb 32 c) (split t)
  where
    go : (b : Bool) (ws : List (List ℕ)) → 0 < length (pick b ([] ∷ ws) (onto c ws))
    go true ws = omega arith
    go false [] = omega arith
    go false (w ∷ ws) = omega arith

spaced-some : (ws : List (List ℕ)) → 0 < length ws → spaced ws ≡ 32 ∷ join ws
unfolding spaced join
spaced-some [] h = absurd (omega arith)
spaced-some (w ∷ ws) h = refl

onto-some : (c : ℕ) (ws : List (List ℕ)) → 0 < length ws → join (onto c ws) ≡ c ∷ join ws
unfolding onto join
onto-some c [] h = absurd (omega arith)
onto-some c (w ∷ ws) h = refl

-- what is cut at every space, joined again
join-split : (t : List ℕ) → join (split t) ≡ t
unfolding split join spaced
join-split [] = refl
join-split (c ∷ t) = go (eqb 32 c) refl (join-split t)
  where
    go : (b : Bool) → eqb 32 c ≡ b → join (split t) ≡ t → join (pick b ([] ∷ split t) (onto c (split t))) ≡ c ∷ t
    go true e h = spaced-some (split t) (split-some t) ∙ ap₂ ◌∷◌ (eqb-true 32 c e) h
    go false e h = onto-some c (split t) (split-some t) ∙ ap (λ (l : List ℕ). c ∷ l) h

join-words : (t : List ℕ) → join (words_of t) ≡ t
unfolding words_of join
join-words [] = refl
join-words (c ∷ t) = join-split (c ∷ t)

numbers-words : (ms : List ℕ) → Under 18 ms → map number_of (map word_of ms) ≡ ms
numbers-words [] u = refl
numbers-words (m ∷ ms) u = ap₂ ◌∷◌ (number_word m u.0) (numbers-words ms u.1)

words-numbers : (ws : List (List ℕ)) → Under 18 (map number_of ws) → map word_of (map number_of ws) ≡ ws
words-numbers [] u = refl
words-numbers (w ∷ ws) u = ap₂ ◌∷◌ (sym (word_number w u.0)) (words-numbers ws u.1)

-- ---- THE LAWS

-- the text of a list of moves parses to that list
pub parse-text : (ms : List ℕ) → Under 18 ms → parse (text_of ms) ≡ ms
unfolding join words_of word_of
parse-text [] u = refl
parse-text (m ∷ ms) u =
    let f = words-free (m ∷ ms) u in
    ap (map number_of) (split-word (word_of m) (spaced (map word_of ms)) (map word_of ms) f.0 (split-words (map word_of ms) f.1)) ∙ numbers-words (m ∷ ms) u

-- a text that parses is the text of its list
pub text-parse : (t : List ℕ) → Under 18 (parse t) → text_of (parse t) ≡ t
text-parse t u = ap join (words-numbers (words_of t) u) ∙ join-words t

-- R U R' U' with a space between; a space at an end, or two, leave a word that is no move's
examples : (parse (82 ∷ 32 ∷ 85 ∷ 32 ∷ 82 ∷ 39 ∷ 32 ∷ 85 ∷ 39 ∷ []) ≡ 6 ∷ 0 ∷ 8 ∷ 2 ∷ []) × (parse (32 ∷ 85 ∷ []) ≡ 18 ∷ 0 ∷ []) × (parse (85 ∷ 32 ∷ []) ≡ 0 ∷ 18 ∷ []) × (parse (85 ∷ 32 ∷ 32 ∷ 66 ∷ 50 ∷ []) ≡ 0 ∷ 18 ∷ 16 ∷ [])
unfolding words_of split onto number_of word_of place range same_list
examples = (refl, refl, refl, refl)

-- ---- the loops that read a text

leb-same : (a b c d : ℕ) → (a ≤ b → c ≤ d) → (b < a → d < c) → leb a b ≡ leb c d
leb-same a b c d f g = go (leb a b) refl
  where
    go : (x : Bool) → leb a b ≡ x → x ≡ leb c d
    go true e = sym (le-leb c d (f (leb-true a b e)))
    go false e = sym (lt-leb c d (g (leb-false a b e)))

pub parse-nothing : (t : List ℕ) → length t ≡ 0 → parse t ≡ []
unfolding words_of
parse-nothing [] e = refl
parse-nothing (c ∷ t) e = absurd (omega arith)

-- one number more to test
pub range-in : {ms rest : List ℕ} {x : ℕ} → ms ≡ x ∷ rest → x < 18 → in_range 18 rest ≡ in_range 18 ms
range-in {ms} {rest} {x} e h = sym (ap (in_range 18) e ∙ ap (λ (b : Bool). b && in_range 18 rest) (lt-ltb x 18 h))

pub range-out : {ms rest : List ℕ} {x : ℕ} → ms ≡ x ∷ rest → 18 ≤ x → in_range 18 ms ≡ false
range-out {ms} {rest} {x} e h = ap (in_range 18) e ∙ ap (λ (b : Bool). b && in_range 18 rest) (le-ltb x 18 h)

-- the words from the place `at` on, which starts a word or lies behind the end
words_from : List ℕ → ℕ → List (List ℕ)
words_from [] at = []
words_from (c ∷ t) at = pick (leb at (suc (length t))) (split (drop at (c ∷ t))) []

-- and their numbers
pub numbers_from : List ℕ → ℕ → List ℕ
numbers_from t at = map number_of (words_from t at)

pub numbers-all : (t : List ℕ) → numbers_from t 0 ≡ parse t
unfolding numbers_from words_from words_of
numbers-all [] = refl
numbers-all (c ∷ t) = ap (λ (b : Bool). map number_of (pick b (split (c ∷ t)) [])) (leb-zero (suc (length t)))

pub numbers-end : (t : List ℕ) (at : ℕ) → length t < at → numbers_from t at ≡ []
unfolding numbers_from words_from
numbers-end [] at h = refl
numbers-end (c ∷ t) at h = ap (λ (b : Bool). map number_of (pick b (split (drop at (c ∷ t))) [])) (lt-leb at (suc (length t)) h)

-- where a word is left, the place is in the text
pub numbers-in : (t : List ℕ) (at : ℕ) → 0 < length (numbers_from t at) → (0 < length t) × (at ≤ length t)
unfolding numbers_from words_from
numbers-in [] at h = absurd (omega arith)
numbers-in (c ∷ t) at h = (omega arith, go (leb at (suc (length t))) refl h)
  where
    go : (b : Bool) → leb at (suc (length t)) ≡ b → 0 < length (map number_of (pick b (split (drop at (c ∷ t))) [])) → at ≤ suc (length t)
    go true e l = leb-true at (suc (length t)) e
    go false e l = absurd (omega arith)

pub end-le : (t : List ℕ) (at : ℕ) → at ≤ length t → at + place (eqb 32) (drop at t) ≤ length t
end-le t at h = omega (arith, place-le (eqb 32) (drop at t), length-drop at t)

-- the word at `at`, which ends at e, and those behind it
pub numbers-next : (t : List ℕ) (at e : ℕ) → 0 < length t → at ≤ length t → e ≡ at + place (eqb 32) (drop at t) → numbers_from t at ≡ number_of (take (e - at) (drop at t)) ∷ numbers_from t (e + 1)
unfolding numbers_from words_from
numbers-next [] at e p h q = absurd (omega arith)
numbers-next (c ∷ t) at e p h q =
    let s : List ℕ = c ∷ t in
    let k = place (eqb 32) (drop at s) in
    let n : e - at ≡ k = omega arith in
    let m : at + suc k ≡ e + 1 = omega arith in
    let b : ltb k (length (drop at s)) ≡ leb (e + 1) (length s) =
    leb-same (suc k) (length (drop at s)) (e + 1) (length s) (λ l. omega (arith, length-drop at s)) (λ l. omega (arith, length-drop at s)) in
    ap (λ (x : Bool). map number_of (pick x (split (drop at s)) [])) (le-leb at (length s) h)
    ∙ ap (map number_of) (split_at (drop at s))
    ∙ ap₂ (λ (i : ℕ) (l : List ℕ). number_of (take i (drop at s)) ∷ map number_of (pick (ltb k (length (drop at s))) (split l) [])) (sym n) (drop-drop (suc k) at s ∙ ap (λ (i : ℕ). drop i s) m)
    ∙ ap (λ (x : Bool). number_of (take (e - at) (drop at s)) ∷ map number_of (pick x (split (drop (e + 1) s)) [])) b

-- ---- the loops that make a text

-- the words from the i-th move on, each with a space before it
abbrev pub text_from : List ℕ → ℕ → List ℕ
text_from ms i = spaced (map word_of (drop i ms))

pub text-first : (ms : List ℕ) → 0 < length ms → text_of ms ≡ word_of (get_or ms 0 0) ++ text_from ms 1
unfolding join
text-first [] h = absurd (omega arith)
text-first (m ∷ ms) h = refl

pub text-first-size : (ms : List ℕ) → 0 < length ms → length (text_of ms) ≡ length (word_of (get_or ms 0 0)) + length (text_from ms 1)
text-first-size ms h = ap length (text-first ms h) ∙ length-append (word_of (get_or ms 0 0)) (text_from ms 1)

pub text-next : (ms : List ℕ) (i : ℕ) → i < length ms → text_from ms i ≡ 32 ∷ (word_of (get_or ms i 0) ++ text_from ms (i + 1))
unfolding spaced
text-next ms i h = ap (λ (l : List ℕ). spaced (map word_of l)) (next ms i h)

pub text-next-size : (ms : List ℕ) (i : ℕ) → i < length ms → length (text_from ms i) ≡ suc (length (word_of (get_or ms i 0)) + length (text_from ms (i + 1)))
text-next-size ms i h = ap length (text-next ms i h) ∙ ap suc (length-append (word_of (get_or ms i 0)) (text_from ms (i + 1)))

pub text-end : (ms : List ℕ) (i : ℕ) → length ms ≤ i → length (text_from ms i) ≡ 0
unfolding spaced
text-end ms i h = ap (λ (l : List ℕ). length (spaced (map word_of l))) (drop_of_length-le ms h)

pub text-nothing : (ms : List ℕ) → length ms ≡ 0 → length (text_of ms) ≡ 0
unfolding join
text-nothing [] e = refl
text-nothing (m ∷ ms) e = absurd (omega arith)

-- the text of one move is its word
pub text-one : (m : ℕ) → text_of (m ∷ []) ≡ word_of m
unfolding join spaced
text-one m = append-nil (word_of m)

-- a word, and the space beside it
abbrev pub need : ℕ → ℕ
need m = length (word_of m) + 1

spaced-size : (ms : List ℕ) → length (spaced (map word_of ms)) ≡ total need ms
unfolding spaced
spaced-size [] = refl
spaced-size (m ∷ ms) = omega (arith, length-append (word_of m) (spaced (map word_of ms)), spaced-size ms)

pub text-fits : (ms : List ℕ) (room : ℕ) → leb (total need ms) (room + 1) ≡ leb (length (text_of ms)) room
unfolding join
text-fits [] room = leb-same 0 (room + 1) 0 room (λ h. omega arith) (λ h. omega arith)
text-fits (m ∷ ms) room =
    let n = omega-size m ms in
    leb-same (total need (m ∷ ms)) (room + 1) (length (text_of (m ∷ ms))) room (λ h. omega arith) (λ h. omega arith)
  where
    omega-size : (m : ℕ) (ms : List ℕ) → total need (m ∷ ms) ≡ length (word_of m ++ spaced (map word_of ms)) + 1
    omega-size m ms = omega (arith, length-append (word_of m) (spaced (map word_of ms)), spaced-size ms)

-- what a word takes of the room
pub fits_more : (n t left : ℕ) → n ≤ left → leb t (left - n) ≡ leb (n + t) left
fits_more n t left h = leb-same t (left - n) (n + t) left (λ l. omega arith) (λ l. omega arith)
