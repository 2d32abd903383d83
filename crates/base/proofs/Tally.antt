-- A search with a budget against the one that counts: if the budget is as large as the count, the same answer, and the count is gone from the
-- budget; if it is smaller, the search is spent, and nothing is left. One theorem for every such search, and the same for runs over several
-- lengths. Assumes nothing.
use Prim.Native.Nat.{ℕ, zero, suc, ◌+◌, ◌-◌, ◌<◌, ◌≤◌}
use mathlib.Core.Path.{◌≡◌, refl, ap}
use mathlib.Core.Bool.{Bool, true, false}
use mathlib.Core.List.{List, [], ◌∷◌}
use native.Mathlib.Nat.{le_refl, le_trans}
use native.Mathlib.Omega.{arith}
use Rattle.base.specs.Finds.{Goes, goes, stops}
use Rattle.base.specs.Search.{Res, still, done, Next, Rules, and_then, branch, deepen, through, walk, enter, left_of}
use Rattle.base.specs.Tally.{tallied}

-- how a search with the budget n stands to the one that counts: both are still open, or both ended with the same answer, and what is left and what
-- was counted make up the budget; or the first is spent, and the second counts more than the budget. Ok: the answers other than spent
pub data Metered {A : Type 0} (out : A) (Ok : A → Type 0) (n : ℕ) : Res A ℕ → Res A ℕ → Type 0 where
  open_both : {s c : ℕ} → s + c ≡ n → Metered out Ok n (still s) (still c)
  done_both : {a : A} {s c : ℕ} → Ok a → s + c ≡ n → Metered out Ok n (done a s) (done a c)
  short : {q : Res A ℕ} → n < left_of q → Metered out Ok n (done out 0) q

-- the same of two parts of a search, wherever they begin; and the count only grows
pub record Meters {A : Type 0} (out : A) (Ok : A → Type 0) (f g : ℕ → Res A ℕ) : Type 0 where
  pub runs : (s c n : ℕ) → s + c ≡ n → Metered out Ok n (f s) (g c)
  pub grows : (c : ℕ) → c ≤ left_of (g c)

-- the same way out, with another amount
unfoldable pub with_left : {A : Type 0} → ℕ → Res A ℕ → Res A ℕ
with_left s (still n) = still s
with_left s (done a n) = done a s

and_then-grows : {A : Type 0} (q : Res A ℕ) (g : ℕ → Res A ℕ) → ((c : ℕ) → c ≤ left_of (g c)) → left_of q ≤ left_of (and_then q g)
unfolding and_then left_of
and_then-grows (still c) g h = h c
and_then-grows (done a c) g h = le_refl c

module _ {A : Type 0} {out : A} {Ok : A → Type 0} where
  pub still-meters : Meters out Ok still still
  unfolding left_of
  still-meters = record { runs = λ s c n e. open_both e; grows = le_refl }

  pub done-meters : {a : A} → Ok a → Meters out Ok (done a) (done a)
  unfolding left_of
  done-meters o = record { runs = λ s c n e. done_both o e; grows = le_refl }

  and_then-metered : {n : ℕ} {p q : Res A ℕ} {f g : ℕ → Res A ℕ} → Metered out Ok n p q → Meters out Ok f g → Metered out Ok n (and_then p f) (and_then q g)
  unfolding and_then
  and_then-metered {n} (open_both {s = s} {c = c} e) m = m.runs s c n e
  and_then-metered (done_both o e) m = done_both o e
  and_then-metered {q = q} {g = g} (short l) m = short {q = and_then q g} (omega (arith, l, and_then-grows q g m.grows))

  pub and_then-meters : {p q f g : ℕ → Res A ℕ} → Meters out Ok p q → Meters out Ok f g → Meters out Ok (λ s. and_then (p s) f) (λ c. and_then (q c) g)
  and_then-meters {q = q} {g = g} h m =
      record { runs = λ s c n e. and_then-metered (h.runs s c n e) m; grows = λ c. le_trans (h.grows c) (and_then-grows (q c) g m.grows) }

  pub branch-meters : (b : Bool) {f g f' g' : ℕ → Res A ℕ} → Meters out Ok f f' → Meters out Ok g g' → Meters out Ok (branch b f g) (branch b f' g')
  unfolding branch
  branch-meters true h k = record { runs = h.runs; grows = h.grows }
  branch-meters false h k = record { runs = k.runs; grows = k.grows }

  -- THE THEOREM over lengths
  pub deepen-meters : {f g : ℕ → ℕ → Res A ℕ} → ((d : ℕ) → Meters out Ok (f d) (g d)) → (d n : ℕ) → Meters out Ok (deepen f d n) (deepen g d n)
  unfolding deepen
  deepen-meters h d zero = still-meters
  deepen-meters h d (suc n) = and_then-meters (h d) (deepen-meters h (suc d) n)

  through-meters : {X : Type 0} {y : Next A X} {f g : X → ℕ → Res A ℕ} {k l : ℕ → Res A ℕ} → Goes Ok (λ (x : X). Unit {0}) y → ((x : X) → Meters out Ok (f x) (g x)) → Meters out Ok k l → Meters out Ok (through y f k) (through y g l)
  unfolding through
  through-meters (goes {x = x} u) h m = and_then-meters (h x) m
  through-meters (stops o) h m = done-meters o

  -- ---- what it comes to

  -- a budget as large as the count
  pub metered-paid : {n : ℕ} {p q : Res A ℕ} → Metered out Ok n p q → left_of q ≤ n → p ≡ with_left (n - left_of q) q
  unfolding left_of with_left
  metered-paid (open_both e) l = ap still (omega arith)
  metered-paid (done_both {a = a} o e) l = ap (done a) (omega arith)
  metered-paid (short h) l = absurd (omega arith)

  -- a smaller one
  pub metered-spent : {n : ℕ} {p q : Res A ℕ} → Metered out Ok n p q → n < left_of q → p ≡ done out 0
  unfolding left_of
  metered-spent (open_both e) l = absurd (omega arith)
  metered-spent (done_both o e) l = absurd (omega arith)
  metered-spent (short h) l = refl

-- what a search's price, its refusals and its ends must keep to
pub record Priced {A M X : Type 0} (out : A) (Ok : A → Type 0) (r : Rules A ℕ M X) (finish : X → ℕ → Res A ℕ) : Type 0 where
  pub pays : Meters out Ok r.pay (λ c. still (suc c))
  pub stopping : (x : X) (m : M) → Goes Ok (λ (y : X). Unit {0}) (r.next x m)
  pub finishes : (x : X) → Meters out Ok (r.finish x) (finish x)

module _ {A M X : Type 0} {out : A} {Ok : A → Type 0} {r : Rules A ℕ M X} {finish : X → ℕ → Res A ℕ} (h : Priced out Ok r finish) where
  walk-meters : {f g : X → ℕ → Res A ℕ} → ((x : X) → Meters out Ok (f x) (g x)) → (x : X) (l : List M) → Meters out Ok (walk r f x l) (walk (tallied r finish) g x l)
  unfolding tallied walk
  walk-meters m x [] = still-meters
  walk-meters m x (k ∷ l) = branch-meters (r.avail x k) (through-meters (h.stopping x k) m (walk-meters m x l)) (walk-meters m x l)

  -- THE THEOREM at one length
  pub enter-meters : (d : ℕ) (x : X) → Meters out Ok (enter r d x) (enter (tallied r finish) d x)
  unfolding tallied enter
  enter-meters zero x = and_then-meters h.pays (branch-meters (r.ends x) (h.finishes x) still-meters)
  enter-meters (suc d) x = and_then-meters h.pays (branch-meters (r.cut x (suc d)) still-meters (walk-meters (enter-meters d) x r.moves))
