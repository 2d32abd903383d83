-- What both searches keep of the lists that they make: how long they are, and that their elements are moves; and what an answer means.
-- Assumes nothing.
use Prim.Native.Nat.{ℕ, suc, ◌+◌, ◌-◌, ◌<◌, ◌≤◌}
use mathlib.Core.Path.{◌≡◌}
use mathlib.Core.Bool.{true, false}
use mathlib.Core.List.{List, [], ◌∷◌, ◌++◌}
use lib.Dec.{ltb, leb}
use lib.ListN.{length, length-append}
use native.Mathlib.Omega.{arith}
use borrow.Author.Tests.{leb-true, lt-leb}
use Rattle.base.specs.Finds.{Says, silent, says, is, Ended}
use Rattle.base.specs.Lists.{Under}
use Rattle.base.specs.Search.{Res}
use Rattle.base.proofs.Digits.{under-append}
use Rattle.base.proofs.Tests.{and-true, right-false}
use Rattle.phase2_steps.specs.Rules.{Ans, solved, nothing, spent, refused}
use Rattle.phase1_steps.specs.First.{under, full_of}

-- n moves in all, d of them still to go
pub record Grown (n d : ℕ) (l : List ℕ) : Type 0 where
  pub size : length l + d ≡ n
  pub moves : Under 18 l

pub grown-none : (n : ℕ) → Grown n n []
grown-none n = record { size = omega arith; moves = tt }

pub grown-more : {n d : ℕ} {l : List ℕ} (m : ℕ) → m < 18 → Grown n (suc d) l → Grown n d (l ++ (m ∷ []))
grown-more {l = l} m h g = record { size = omega (arith, length-append l (m ∷ []), g.size); moves = under-append 18 l (m ∷ []) g.moves (h, tt) }

-- fewer than n moves
pub record Short (n : ℕ) (l : List ℕ) : Type 0 where
  pub size : length l < n
  pub moves : Under 18 l

pub short-grown : {n d : ℕ} {l : List ℕ} → d < n → Grown d 0 l → Short n l
short-grown h g = record { size = omega (arith, g.size); moves = g.moves }

-- a list of phase 1 and one of phase 2
pub short-both : {n limit : ℕ} {l k : List ℕ} → Grown n 0 l → Short (limit - length l) k → Short limit (l ++ k)
short-both {l = l} {k = k} g s = record { size = omega (arith, length-append l k, s.size); moves = under-append 18 l k g.moves s.moves }

-- ---- an end of phase 1 with as many moves as the limit

pub full-reached : (limit n : ℕ) → full_of limit n ≡ true → limit ≤ n
full-reached limit n e = leb-true limit n (and-true (ltb 0 n) (leb limit n) e).1

pub full-not : (limit n : ℕ) → n < limit → full_of limit n ≡ false
full-not limit n h = right-false (ltb 0 n) (lt-leb limit n h)

-- ---- what an answer means: F of what was found, N if nothing was, Q if the search was spent or refused

abbrev pub Means : {L : Type 0} → Type 0 → Type 0 → (L → Type 0) → Ans L → Type 0
Means N Q F (solved l) = F l
Means N Q F nothing = N
Means N Q F spent = Q
Means N Q F refused = Q

pub under-says : {L K S : Type 0} {N N' Q : Type 0} (F : L → Type 0) (G : K → Type 0) (g : L → K) {q : Res (Ans L) S} → (N → N') → ((l : L) → F l → G (g l)) → Says (Means N Q F) q → Says (Means N' Q G) (under g q)
unfolding under
under-says F G g i h silent = silent
under-says F G g i h (says {a = solved l} v) = says (h l v)
under-says F G g i h (says {a = nothing} v) = says (i v)
under-says F G g i h (says {a = spent} v) = says v
under-says F G g i h (says {a = refused} v) = says v

pub under-ended : {L K S : Type 0} (g : L → K) {q : Res (Ans L) S} → Ended q → Ended (under g q)
unfolding under
under-ended g (is {a = solved l} v) = is tt
under-ended g (is {a = nothing} v) = is tt
under-ended g (is {a = spent} v) = is tt
under-ended g (is {a = refused} v) = is tt
