-- What a call answers and leaves, case by case: the lengths of its memory, and the kinds of answers. Assumes nothing.
use Prim.Native.Nat.{ℕ, ◌<◌, ◌≤◌}
use mathlib.Core.Path.{◌≡◌, refl, sym, ap, ◌∙◌}
use mathlib.Core.Bool.{Bool, true, false, ◌&&◌}
use mathlib.Core.List.{List, [], ◌∷◌}
use denote.Enum.Declared.{tag_of}
use lib.Dec.{eqb}
use lib.ListN.{length}
use borrow.Author.Tests.{le-leb, lt-leb, eq-eqb, ne_eqb}
use types.Run.{OneOf, miss}
use Rattle.base.specs.Lists.{pick}
use Rattle.cubie.specs.Cube.{cube_of}
use Rattle.cubie.specs.declared.CubieCube.{CubieCube}
use Rattle.search.specs.Solve.{solve_of}
use Rattle.search.specs.declared.Found.{Found}
use Rattle.search.specs.declared.Found.TheVariants as found
use Rattle.search.specs.declared.Solution.{Solution}
use Rattle.search.proofs.Answered.{solve-limit}
use Rattle.search.specs.contracts.Found.{the_type}
use Rattle.search_calls.specs.Calls.{packed, fits, solve_number, list_left, first_left, second_left}

-- ---- the lengths

module _ (cube one two : List ℕ) where
  fits_by : {a b c : Bool} → eqb (length cube) 40 ≡ a → eqb (length one) 31 ≡ b → eqb (length two) 31 ≡ c → fits cube one two ≡ a && (b && c)
  fits_by e f g = λ i. e i && (f i && g i)

  pub unfit-cube : (length cube ≡ 40 → ⊥) → fits cube one two ≡ false
  unfit-cube n = fits_by (ne_eqb _ _ n) refl refl

  module _ (l : length cube ≡ 40) where
    pub unfit-one : (length one ≡ 31 → ⊥) → fits cube one two ≡ false
    unfit-one n = fits_by (eq-eqb _ _ l) (ne_eqb _ _ n) refl

    module _ (m : length one ≡ 31) where
      pub unfit-two : (length two ≡ 31 → ⊥) → fits cube one two ≡ false
      unfit-two n = fits_by (eq-eqb _ _ l) (eq-eqb _ _ m) (ne_eqb _ _ n)

      pub all_fit : length two ≡ 31 → fits cube one two ≡ true
      all_fit n = fits_by (eq-eqb _ _ l) (eq-eqb _ _ m) (eq-eqb _ _ n)

-- ---- an answer other than solved leaves what was there

pub list-kept : (f : Found) (list before : List ℕ) → OneOf (1 ∷ 2 ∷ 3 ∷ []) (tag_of the_type f) → list_left f list before ≡ before
list-kept found.Solved list before h = absurd (miss (1 ∷ 2 ∷ 3 ∷ []) 0 tt h)
list-kept found.Nothing list before h = refl
list-kept found.Spent list before h = refl
list-kept (found.Refused n) list before h = refl

-- ---- what is returned and left

pick_same : (b : Bool) (l : List ℕ) → pick b l l ≡ l
pick_same true l = refl
pick_same false l = refl

module _ (cube : List ℕ) (limit budget : ℕ) (moves prunes one two : List ℕ) where
  abbrev pub Leaves : ℕ → List ℕ → List ℕ → Type 0
  Leaves r o t =
      (r ≡ solve_number cube limit budget moves prunes one two)
      × ((o ≡ first_left cube limit budget moves prunes one two) × (t ≡ second_left cube limit budget moves prunes one two))

  pub late : 31 < limit → Leaves 9 one two
  late l =
      let b = fits cube one two in
      let e = solve-limit (cube_of cube) limit budget moves prunes l in (
        sym (ap (λ (c : Bool). pick c (pick b (packed (solve_of (cube_of cube) limit budget moves prunes)) 10) 9) (lt-leb limit 31 l)),
        (
          sym (ap (λ (s : Solution). pick b (list_left s.found s.phase1 one) one) e ∙ pick_same b one),
          sym (ap (λ (s : Solution). pick b (list_left s.found s.phase2 two) two) e ∙ pick_same b two),
        ),
      )

  pub refuses : limit ≤ 31 → fits cube one two ≡ false → Leaves 10 one two
  refuses l e =
      let s = solve_of (cube_of cube) limit budget moves prunes in
      ((λ i. pick (sym (le-leb limit 31 l) i) (pick (sym e i) (packed s) 10) 9), (sym (ap (λ (b : Bool). pick b (list_left s.found s.phase1 one) one) e), sym (ap (λ (b : Bool). pick b (list_left s.found s.phase2 two) two) e)))

  pub answers : {r : ℕ} {o t : List ℕ} {c : CubieCube} {s : Solution} → limit ≤ 31 → fits cube one two ≡ true → c ≡ cube_of cube → s ≡ solve_of c limit budget moves prunes
      → r ≡ packed s → o ≡ list_left s.found s.phase1 one → t ≡ list_left s.found s.phase2 two → Leaves r o t
  answers {r} {o} {t} {c} {s} l e g h p q w =
      let k = h ∙ ap (λ (d : CubieCube). solve_of d limit budget moves prunes) g in (
        p ∙ (λ i. pick (sym (le-leb limit 31 l) i) (pick (sym e i) (packed (k i)) 10) 9),
        (q ∙ (λ i. pick (sym e i) (list_left (k i).found (k i).phase1 one) one), w ∙ (λ i. pick (sym e i) (list_left (k i).found (k i).phase2 two) two)),
      )
