-- Facts about the definitions: entries of the blocks, turns, words and what is left in a path. Assumes nothing.
use Prim.Native.Nat.{ℕ, ◌+◌, ◌*◌, ◌<◌, ◌≤◌, max}
use mathlib.Core.Path.{◌≡◌, refl, sym, ap, subst, ◌∙◌}
use mathlib.Core.Bool.{Bool, true, false, ◌&&◌, false≢true}
use mathlib.Core.List.{List}
use native.Mathlib.Omega.{arith}
use lib.Dec.{ltb}
use lib.ListN.{take, drop, get_or}
use lib.Seq.{get_or-take, get_or-drop}
use borrow.Author.Tests.{lt-ltb, le-ltb, ltb-true}
use Rattle.base.specs.Search.{Res, still, done, left_of}
use Rattle.pruning_table.specs.Check.{begins_at, entries, part}
use Rattle.phase2_steps.specs.Rules.{Shape, phase2, Coords, Below, below_of, cut_of, go_of, Ans, solved, nothing, spent, refused}
use Rattle.phase2_steps.specs.Paths.{Holds, word_of}
use Rattle.phase2_steps.specs.Second.{turns2, fars2, of2, turned2, Leaves2, Gives2}
use Rattle.phase2_steps.specs.declared.Phase2State.{Phase2State}
use Rattle.std.proofs.Common.{Some, None}
use Rattle.phase2_steps.proofs.Path.{held-length, held-stored}

-- ---- an entry of a table is the block's, behind the place where the table begins

pub entry-is : (t : ℕ) (block : List ℕ) (i k : ℕ) → i < entries t → k ≡ begins_at t + i → get_or (part t block) i 0 ≡ get_or block k 0
entry-is t block i k h e =
    get_or-take (entries t) (drop (begins_at t) block) i 0 h ∙ get_or-drop (begins_at t) block i 0 ∙ ap (λ (k : ℕ). get_or block k 0) (sym e)

-- the cut, and the position after a move, by the entries of the blocks; m, n, k: where they stand
pub cut-is : (sh : Shape) (s t : ℕ) (block : List ℕ) (x : Coords) (d m n : ℕ) → x.a * sh.nc + x.c < entries s → x.b * sh.nc + x.c < entries t
    → m ≡ begins_at s + (x.a * sh.nc + x.c) → n ≡ begins_at t + (x.b * sh.nc + x.c)
    → cut_of sh (record { pa = part s block; pb = part t block }) x d ≡ ltb d (max (get_or block m 0) (get_or block n 0))
unfolding cut_of
cut-is sh s t block x d m n g h e f =
    λ i. ltb d (max (entry-is s block (x.a * sh.nc + x.c) m g e i) (entry-is t block (x.b * sh.nc + x.c) n h f i))

pub go-is : (sh : Shape) (s t u : ℕ) (block : List ℕ) (x : Coords) (j m n k : ℕ)
    → x.a * sh.w + j < entries s → x.b * sh.w + j < entries t → x.c * sh.w + j < entries u
    → m ≡ begins_at s + (x.a * sh.w + j) → n ≡ begins_at t + (x.b * sh.w + j) → k ≡ begins_at u + (x.c * sh.w + j)
    → go_of sh (record { ta = part s block; tb = part t block; tc = part u block }) x j ≡ record { a = get_or block m 0; b = get_or block n 0; c = get_or block k 0 }
unfolding go_of
go-is sh s t u block x j m n k f g h d e i =
    λ z. record {
      a = entry-is s block (x.a * sh.w + j) m f d z;
      b = entry-is t block (x.b * sh.w + j) n g e z;
      c = entry-is u block (x.c * sh.w + j) k h i z;
    }

pub cut2-is : (p : List ℕ) (x : Coords) (d : ℕ) → Below phase2 x → cut_of phase2 (fars2 p) x d ≡ ltb d (max (get_or p (2096325 + (x.a * 24 + x.c)) 0) (get_or p (3064005 + (x.b * 24 + x.c)) 0))
unfolding fars2
cut2-is p x d h = cut-is phase2 8 9 p x d _ _ (omega (arith, h.a, h.c)) (omega (arith, h.b, h.c)) refl refl

pub go2-is : (m : List ℕ) (x : Coords) (j : ℕ) → Below phase2 x → j < 10
    → go_of phase2 (turns2 m) x j ≡ record { a = get_or m (85140 + (x.a * 10 + j)) 0; b = get_or m (488340 + (x.b * 10 + j)) 0; c = get_or m (891540 + (x.c * 10 + j)) 0 }
unfolding turns2
go2-is m x j h l = go-is phase2 3 4 5 m x j _ _ _ (omega (arith, h.a)) (omega (arith, h.b)) (omega (arith, h.c)) refl refl refl

-- ---- turns

pub and-false : (p : Bool) → (p && false) ≡ false
and-false true = refl
and-false false = refl

-- the test of a turn, by its three bounds
module _ (sh : Shape) (y : Coords) where
  pub below-yes : y.a < sh.na → y.b < sh.nb → y.c < sh.nc → below_of sh y ≡ true
  unfolding below_of
  below-yes p q r = λ i. lt-ltb _ _ p i && (lt-ltb _ _ q i && lt-ltb _ _ r i)

  pub above-a : sh.na ≤ y.a → below_of sh y ≡ false
  unfolding below_of
  above-a h = ap (λ (b : Bool). b && (ltb y.b sh.nb && ltb y.c sh.nc)) (le-ltb _ _ h)

  pub above-b : sh.nb ≤ y.b → below_of sh y ≡ false
  unfolding below_of
  above-b h = ap (λ (b : Bool). ltb y.a sh.na && (b && ltb y.c sh.nc)) (le-ltb _ _ h) ∙ and-false (ltb y.a sh.na)

  pub above-c : sh.nc ≤ y.c → below_of sh y ≡ false
  unfolding below_of
  above-c h =
      ap (λ (b : Bool). ltb y.a sh.na && (ltb y.b sh.nb && b)) (le-ltb _ _ h)
      ∙ ap (λ (b : Bool). ltb y.a sh.na && b) (and-false (ltb y.b sh.nb))
      ∙ and-false (ltb y.a sh.na)

  pub below-is : below_of sh y ≡ true → Below sh y
  unfolding below_of
  below-is e = at (ltb y.a sh.na) (ltb y.b sh.nb) (ltb y.c sh.nc) refl refl refl e
    where
      at : (p q r : Bool) → ltb y.a sh.na ≡ p → ltb y.b sh.nb ≡ q → ltb y.c sh.nc ≡ r → (p && (q && r)) ≡ true → Below sh y
      at true true true a b c e = record { a = ltb-true _ _ a; b = ltb-true _ _ b; c = ltb-true _ _ c }
      at true true false a b c e = absurd (false≢true e)
      at true false r a b c e = absurd (false≢true e)
      at false q r a b c e = absurd (false≢true e)

-- what a turn answers, of the entries y that it read; f: `turned2`, or phase 1's
pub turns_as : {A : Type 0} (sh : Shape) (f : Bool → Coords → ℕ → A) {z y : Coords} {b : Bool} (m : ℕ) → z ≡ y → below_of sh y ≡ b → f b y m ≡ f (below_of sh z) z m
turns_as sh f m e b = λ i. f (sym (ap (below_of sh) e ∙ b) i) (sym e i) m

-- a turn that was refused, and one that was not
pub was-refused2 : (b : Bool) (y : Coords) (m : ℕ) → None ≡ turned2 b y m → b ≡ false
unfolding turned2
was-refused2 true y m e = cc
was-refused2 false y m e = refl

pub was-made2 : (b : Bool) (y : Coords) (m : ℕ) (z : Phase2State) → Some z ≡ turned2 b y m → (b ≡ true) × (of2 z ≡ y) × (z.last ≡ m)
unfolding turned2
was-made2 true y m z e = (refl, cc, cc)
was-made2 false y m z e = (cc, cc, cc)

pub made-below2 : (y : Coords) (m : ℕ) (z : Phase2State) → Some z ≡ turned2 (below_of phase2 y) y m → Below phase2 (of2 z)
made-below2 y m z e = subst (Below phase2) (sym (was-made2 _ y m z e).1) (below-is phase2 y (was-made2 _ y m z e).0)

-- ---- words

-- a word below 2^32 is that of a search still open; else it ended, if the budget left is below 2^32
module _ {L : Type 0} (f : L → List ℕ) where
  pub word-open : (q : Res (Ans L) ℕ) (r : ℕ) → r ≡ word_of f q → r < 4294967296 → q ≡ still r
  unfolding word_of
  word-open (still s) r e l = ap still (sym e)
  word-open (done nothing s) r e l = absurd (omega (arith, e, l))
  word-open (done spent s) r e l = absurd (omega (arith, e, l))
  word-open (done refused s) r e l = absurd (omega (arith, e, l))
  word-open (done (solved k) s) r e l = absurd (omega (arith, e, l))

  pub word-ended : (q : Res (Ans L) ℕ) (r : ℕ) → r ≡ word_of f q → left_of q < 4294967296 → 4294967296 ≤ r → (a : Ans L) × (s : ℕ) × (q ≡ done a s)
  unfolding word_of left_of
  word-ended (still s) r e h l = absurd (omega (arith, e, h, l))
  word-ended (done a s) r e h l = (a, s, refl)

-- ---- what phase 2 leaves in the path

-- once ended, what the path held before does not matter
pub over2 : {q q' : Res (Ans (List ℕ)) ℕ} {a : Ans (List ℕ)} {s : ℕ} (p p' o : List ℕ) → q ≡ done a s → q' ≡ done a s → Leaves2 q p o → Leaves2 q' p' o
unfolding Leaves2
over2 {q} {q'} {a} {s} p p' o e e' h =
    subst (λ (z : Res (Ans (List ℕ)) ℕ). Leaves2 z p' o) (sym e') (at a (subst (λ (z : Res (Ans (List ℕ)) ℕ). Leaves2 z p o) e h))
  where
    at : (a : Ans (List ℕ)) → Leaves2 (done a s) p o → Leaves2 (done a s) p' o
    at (solved l) h = h
    at nothing h = h
    at spent h = h
    at refused h = h

-- while open, the path is as it was
pub open2 : {q : Res (Ans (List ℕ)) ℕ} {s : ℕ} {p o : List ℕ} → q ≡ still s → Leaves2 q p o → o ≡ p
unfolding Leaves2
open2 {q} {s} {p} {o} e h = subst (λ (z : Res (Ans (List ℕ)) ℕ). Leaves2 z p o) e h

-- what a function gives, by what the search it stands for comes to
pub gives2 : {s q : Res (Ans (List ℕ)) ℕ} {r : ℕ} {p o : List ℕ} → s ≡ q → r ≡ word_of (λ l. l) q → Leaves2 q p o → Gives2 s r p o
gives2 {s} {q} {r} {p} {o} e w l =
    record { word = w ∙ ap (word_of (λ l. l)) (sym e); path = subst (λ (z : Res (Ans (List ℕ)) ℕ). Leaves2 z p o) (sym e) l }

-- an end: the array that holds the n moves is handed back as the list
pub solves2 : {path : List ℕ} {n : ℕ} → Holds path n → n ≤ 31 → (s : ℕ)
    → ((4 + n) * 4294967296 + s ≡ word_of (λ l. l) (done (solved (take n path)) s)) × Leaves2 (done (solved (take n path)) s) path path
unfolding word_of Leaves2
solves2 h l s = (ap (λ (k : ℕ). (4 + k) * 4294967296 + s) (sym (held-length h l)), held-stored h)
