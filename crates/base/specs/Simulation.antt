-- What it is that a search with a cut and a budget agrees with a plain one. Assumes nothing: these are definitions.
use Rattle.std.specs.Prelude.{ℕ, zero, suc, ◌≡◌, true, false}
use Rattle.base.specs.Lists.{Each}
use Rattle.base.specs.Search.{Res, still, done, Next, refuse, to, Rules, Plain}

-- both are still open, or both ended with the same answer, or the first is lost
pub data Agree {A S T : Type 0} (Lost : A → Type 0) : Res A S → Res A T → Type 0 where
  open_both : {s : S} {t : T} → Agree Lost (still s) (still t)
  done_both : {a : A} {s : S} {t : T} → Agree Lost (done a s) (done a t)
  lost : {a : A} {s : S} {q : Res A T} → Lost a → Agree Lost (done a s) q

-- a move of the first search leads to where the plain one's does, or to a refusal
pub data Steps {A X Y : Type 0} (Lost : A → Type 0) (R : X → Y → Type 0) : Next A X → Y → Type 0 where
  step : {x : X} {y : Y} → R x y → Steps Lost R (to x) y
  stop : {a : A} {y : Y} → Lost a → Steps Lost R (refuse a) y

-- no plain path of exactly d moves from y reaches an end. Ok: what holds of every move of the list
unfoldable pub NoEnd : {A M Y : Type 0} → Plain A M Y → (M → Type 0) → ℕ → Y → Type 0
NoEnd p Ok zero y = p.ends y ≡ false
NoEnd p Ok (suc d) y = (m : _) → Ok m → p.avail y m ≡ true → NoEnd p Ok d (p.go y m)

-- what relates a search of the rules r to the plain one of p
pub record Simulates {A S M X Y : Type 0} (r : Rules A S M X) (p : Plain A M Y) (Lost : A → Type 0) (Ok : M → Type 0) (R : X → Y → Type 0) : Type 0 where
  pub same_moves : r.moves ≡ p.moves
  pub moves_ok : Each Ok p.moves
  pub pays : (s : S) (t : Unit {0}) → Agree Lost (r.pay s) (Res.still t)
  pub same_avail : (x : X) (y : Y) → R x y → (m : M) → Ok m → r.avail x m ≡ p.avail y m
  pub steps : (x : X) (y : Y) → R x y → (m : M) → Ok m → Steps Lost R (r.next x m) (p.go y m)
  pub same_ends : (x : X) (y : Y) → R x y → r.ends x ≡ p.ends y
  pub finishes : (x : X) (y : Y) → R x y → p.ends y ≡ true → (s : S) (t : Unit {0}) → Agree Lost (r.finish x s) (p.finish y t)
  pub cuts : (x : X) (y : Y) → R x y → (d : ℕ) → r.cut x d ≡ true → NoEnd p Ok d y
