-- What a search says, and the paths that it follows. Assumes nothing: these are definitions.
use Rattle.std.specs.Prelude.{ℕ, zero, suc, ◌≡◌, true, List, ◌∷◌}
use Rattle.base.specs.Search.{Res, still, done, Next, refuse, to, Plain}

-- m is an element
pub data In {M : Type 0} (m : M) : List M → Type 0 where
  here : {l : List M} → In m (m ∷ l)
  there : {k : M} {l : List M} → In m l → In m (k ∷ l)

-- if there is an answer, it is P
pub data Says {A S : Type 0} (P : A → Type 0) : Res A S → Type 0 where
  silent : {s : S} → Says P (still s)
  says : {a : A} {s : S} → P a → Says P (done a s)

-- there is an answer, and it is P
pub data Is {A S : Type 0} (P : A → Type 0) : Res A S → Type 0 where
  is : {a : A} {s : S} → P a → Is P (done a s)

abbrev pub Ended : {A S : Type 0} → Res A S → Type 0
Ended q = Is (λ a. Unit {0}) q

-- a move leads to a position that is Q, or to an answer that is P
pub data Goes {A X : Type 0} (P : A → Type 0) (Q : X → Type 0) : Next A X → Type 0 where
  goes : {x : X} → Q x → Goes P Q (to x)
  stops : {a : A} → P a → Goes P Q (refuse a)

-- a path of exactly d available moves from y to an end where the plain search ends
unfoldable pub Hits : {A M Y : Type 0} → Plain A M Y → ℕ → Y → Type 0
Hits p zero y = (p.ends y ≡ true) × ((u : Unit {0}) → Ended (p.finish y u))
Hits p (suc d) y = (m : _) × In m p.moves × (p.avail y m ≡ true) × Hits p d (p.go y m)
