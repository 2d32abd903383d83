-- The words of a text, as the library cuts it at its spaces. Assumes nothing.
use mathlib.Core.Path.{◌≡◌, refl, sym, ap, ap₂, ◌∙◌}
use mathlib.Core.Bool.{Bool, true, false, cond, ◌&&◌}
use mathlib.Core.List.{List, [], ◌∷◌, map}
use Prim.Native.Nat.{ℕ, zero, suc, ◌+◌, ◌≤◌, ◌<◌}
use native.Mathlib.Omega.{arith}
use lib.Dec.{eqb, ltb}
use lib.ListN.{length, get_or, drop, set, length-drop, length-map}
use borrow.Author.Tests.{le-ltb, lt-ltb}
use Rattle.std.specs.List.{All, slice_split, onto_first, enumerate_from}
use Rattle.std.proofs.lemmas.List.{get_or-map}
use Rattle.std.proofs.lemmas.List.FromFn.{length-enumerate_from, get_or-enumerate_from}
use Rattle.base.specs.Lists.{pick, in_range}
use Rattle.base.proofs.Steps.{next}
use Rattle.words.specs.Answers.{over}
use Rattle.words.specs.Text.{number_of, onto, split, words_of, parse}
use Rattle.words.proofs.Words.{either-way}
use Rattle.words.proofs.Over.{over_none, over-cons}

-- what stands between the spaces
abbrev pub cut : List ℕ → List (List ℕ)
cut t = slice_split (λ b. eqb b 32) t

one : (c : ℕ) (b : Bool) (ws : List (List ℕ)) → cond b ([] ∷ ws) (onto_first c ws) ≡ pick b ([] ∷ ws) (onto c ws)
unfolding onto
one c true ws = refl
one c false [] = refl
one c false (w ∷ ws) = refl

cut-is : (t : List ℕ) → cut t ≡ split t
unfolding split
cut-is [] = refl
cut-is (c ∷ t) = one c (eqb c 32) (cut t) ∙ ap₂ (λ (b : Bool) (ws : List (List ℕ)). pick b ([] ∷ ws) (onto c ws)) (either-way c 32) (cut-is t)

pub parse-cut : (t : List ℕ) → 0 < length t → parse t ≡ map number_of (cut t)
unfolding words_of
parse-cut [] h = absurd (omega arith)
parse-cut (c ∷ t) h = ap (map number_of) (sym (cut-is (c ∷ t)))

pub text-some : (t : List ℕ) → 0 < length (parse t) → 0 < length t
unfolding words_of
text-some [] h = absurd (omega arith)
text-some (c ∷ t) h = omega arith

-- one word that names no move, and words that all do
pub no_list : (ws : List (List ℕ)) (k : ℕ) (w : List ℕ) → k < length ws → w ≡ get_or ws k w → 18 ≤ number_of w → in_range 18 (map number_of ws) ≡ false
no_list [] k w h e l = absurd (omega arith)
no_list (v ∷ ws) zero w h e l = rw (← e) (rw (le-ltb (number_of w) 18 l))
no_list (v ∷ ws) (suc k) w h e l = rw (no_list ws k w (omega arith) e l) (go (ltb (number_of v) 18))
  where
    go : (b : Bool) → b && false ≡ false
    go true = refl
    go false = refl

pub all-moves : (ws : List (List ℕ)) → All (λ w. number_of w < 18) ws → in_range 18 (map number_of ws) ≡ true
all-moves [] a = refl
all-moves (v ∷ ws) a = rw (lt-ltb (number_of v) 18 (a 0 v (omega arith)), all-moves ws (λ k d h. a (suc k) d (omega arith)))

-- one word of the text, by its place
pub word_at : (t : List ℕ) (k i : ℕ) (w : List ℕ) → 0 < length t → k < length (enumerate_from 0 (cut t)) → (i, w) ≡ get_or (enumerate_from 0 (cut t)) k (i, w)
    → (k < length (parse t)) × (i ≡ k) × (number_of w ≡ get_or (parse t) k 0)
word_at t k i w some h e =
    let all = parse-cut t some in
    let l : k < length (cut t) = omega (arith, length-enumerate_from 0 (cut t)) in
    let p : ◌≡◌ {A = ℕ × List ℕ} (i, w) (0 + k, get_or (cut t) k w) = e ∙ get_or-enumerate_from 0 (cut t) k (i, w) l in
    let first : i ≡ 0 + k = ap (λ (q : ℕ × List ℕ). q.0) p in (
      omega (arith, ap length all, length-map (cut t) number_of),
      omega arith,
      ap (λ (q : ℕ × List ℕ). number_of q.1) p ∙ sym (get_or-map number_of (cut t) k w 0 l) ∙ sym (ap (λ (ms : List ℕ). get_or ms k 0) all),
    )

-- one number more that is written
pub put-next : (ms d : List ℕ) (k : ℕ) → k < length ms → k < length d → over (set d k (get_or ms k 0)) (k + 1) (drop (k + 1) ms) ≡ over d k (drop k ms)
put-next ms d k h l = over-cons d k (get_or ms k 0) (drop (k + 1) ms) l ∙ ap (over d k) (sym (next ms k h))

pub put-end : (ms d : List ℕ) (k : ℕ) → length ms ≤ k → over d k (drop k ms) ≡ d
put-end ms d k h = over_none d k (drop k ms) (omega (arith, length-drop k ms))
