-- What a search says, by what each end within its reach says; and that the plain search ends where a path leads to an end. Assumes nothing.
use Prim.Native.Nat.{ℕ, zero, suc, ◌+◌, ◌<◌, ◌≤◌}
use mathlib.Core.Path.{◌≡◌, refl, subst, sym}
use mathlib.Core.Bool.{Bool, true, false}
use mathlib.Core.Logic.{⊎_elim}
use mathlib.Core.List.{List, [], ◌∷◌}
use native.Mathlib.Nat.{eq-or-lt_of_le}
use native.Mathlib.Omega.{arith}
use Rattle.base.specs.Finds.{In, here, there, Says, silent, says, Is, is, Ended, Goes, goes, stops, Hits}
use Rattle.base.specs.Lists.{Each, range}
use Rattle.base.specs.Search.{Res, still, done, Next, to, Rules, and_then, branch, deepen, through, walk, enter, Plain, plain}
use Rattle.base.proofs.Product.{range-under}

-- ---- the numbers of a range

pub in-range : (j m k : ℕ) → m ≤ j → j < m + k → In j (range m k)
unfolding range
in-range j m zero h s = absurd (omega arith)
in-range j m (suc k) h s = ⊎_elim (λ (e : m ≡ j). subst (λ (i : ℕ). In j (i ∷ range (suc m) k)) (sym e) here) (λ (l : m < j). there (in-range j (suc m) k l (omega arith))) (eq-or-lt_of_le h)

pub range-in : (j m k : ℕ) → In j (range m k) → j < m + k
range-in j m k i = each_in (λ (h : ℕ). h < m + k) i (range-under m k (m + k) (omega arith))
  where
    each_in : (P : ℕ → Type 0) {l : List ℕ} → In j l → Each P l → P j
    each_in P here h = h.0
    each_in P (there i) h = each_in P i h.1

-- ---- parts of a search, one after the other

module _ {A S : Type 0} where
  pub says-ended : {P : A → Type 0} {q : Res A S} → Says P q → Ended q → Is P q
  says-ended {P = P} (silent {s = s}) e = elim e [ ]
  says-ended (says h) e = is h

  pub says_any : (q : Res A S) → Says (λ a. Unit {0}) q
  says_any (still s) = silent
  says_any (done a s) = says tt

  module _ {P : A → Type 0} where
    and_then-says : {q : Res A S} {k : S → Res A S} → Says P q → ((s : S) → Says P (k s)) → Says P (and_then q k)
    unfolding and_then
    and_then-says (silent {s = s}) r = r s
    and_then-says (says h) r = says h

    and_then-first : {q : Res A S} (k : S → Res A S) → Is P q → Is P (and_then q k)
    unfolding and_then
    and_then-first k (is h) = is h

    and_then-rest : {q : Res A S} {k : S → Res A S} → Says P q → ((s : S) → Is P (k s)) → Is P (and_then q k)
    unfolding and_then
    and_then-rest (silent {s = s}) r = r s
    and_then-rest (says h) r = is h

    pub branch-says : (b : Bool) (f g : S → Res A S) (s : S) → (b ≡ true → Says P (f s)) → Says P (g s) → Says P (branch b f g s)
    unfolding branch
    branch-says true f g s h k = h refl
    branch-says false f g s h k = k

    -- n lengths, from d on
    pub deepen-says : (f : ℕ → S → Res A S) (d n : ℕ) → ((i : ℕ) → i < d + n → (s : S) → Says P (f i s)) → (s : S) → Says P (deepen f d n s)
    unfolding deepen
    deepen-says f d zero h s = silent
    deepen-says f d (suc n) h s = and_then-says (h d (omega arith) s) (λ t. deepen-says f (suc d) n (λ i l u. h i (omega arith) u) t)

    -- if the length k ends, the lengths up to k decide
    pub deepen-is : (f : ℕ → S → Res A S) (k d n : ℕ) → d ≤ k → k < d + n → ((i : ℕ) → i ≤ k → (s : S) → Says P (f i s)) → ((s : S) → Is P (f k s)) → (s : S) → Is P (deepen f d n s)
    unfolding deepen
    deepen-is f k d zero l r h e s = absurd (omega arith)
    deepen-is f k d (suc n) l r h e s =
        ⊎_elim
        (λ (q : d ≡ k). and_then-first _ (subst (λ (i : ℕ). Is P (f i s)) (sym q) (e s)))
        (λ (q : d < k). and_then-rest (h d l s) (λ t. deepen-is f k (suc d) n q (omega arith) h e t))
        (eq-or-lt_of_le l)

    through-says : {X : Type 0} {Q : X → Type 0} {n : Next A X} (f : X → S → Res A S) (k : S → Res A S) (s : S) → Goes P Q n → ((x : X) → Q x → (s : S) → Says P (f x s)) → ((s : S) → Says P (k s)) → Says P (through n f k s)
    unfolding through
    through-says f k s (goes {x = x} q) h r = and_then-says (h x q s) r
    through-says f k s (stops a) h r = says a

-- ---- any search

module _ {A S M X : Type 0} (r : Rules A S M X) {P : A → Type 0} where
  walk-says : (f : X → S → Res A S) (Q : X → Type 0) → ((x : X) → Q x → (s : S) → Says P (f x s)) → (x : X) (l : List M) → ((m : M) → In m l → Goes P Q (r.next x m)) → (s : S) → Says P (walk r f x l s)
  unfolding walk
  walk-says f Q g x [] h s = silent
  walk-says f Q g x (m ∷ l) h s =
      let rest = walk-says f Q g x l (λ k i. h k (there i)) in
      branch-says (r.avail x m) (through (r.next x m) f (λ t. walk r f x l t)) (λ t. walk r f x l t) s
      (λ a. through-says f (λ t. walk r f x l t) s (h m here) g rest) (rest s)

  -- what each end within reach says. I d x: x may come up with d moves to go
  pub enter-says : (I : ℕ → X → Type 0) → ((s : S) → Says P (r.pay s)) → ((d : ℕ) (x : X) (m : M) → In m r.moves → I (suc d) x → Goes P (I d) (r.next x m)) → ((x : X) → I 0 x → r.ends x ≡ true → (s : S) → Says P (r.finish x s)) → (d : ℕ) (x : X) → I d x → (s : S) → Says P (enter r d x s)
  unfolding enter
  enter-says I pays step last zero x i s = and_then-says (pays s) (λ t. branch-says (r.ends x) (r.finish x) still t (λ e. last x i e t) silent)
  enter-says I pays step last (suc d) x i s =
      and_then-says (pays s)
      (λ t. branch-says (r.cut x (suc d)) still (walk r (enter r d) x r.moves) t (λ e. silent)
      (walk-says (enter r d) (I d) (λ y j u. enter-says I pays step last d y j u) x r.moves (λ m k. step d x m k i) t))

-- ---- the plain search

module _ {A M Y : Type 0} (p : Plain A M Y) where
  walk-hits : (f : Y → Unit {0} → Res A (Unit {0})) (y : Y) (m : M) (l : List M) → In m l → p.avail y m ≡ true → ((u : Unit {0}) → Ended (f (p.go y m) u)) → (u : Unit {0}) → Ended (walk (plain p) f y l u)
  unfolding plain walk through branch
  walk-hits f y m l (here {l = k}) a e u = rw a (and_then-first _ (e u))
  walk-hits f y m l (there {k = n} {l = k} i) a e u = go (p.avail y n) (walk-hits f y m k i a e)
    where
      go : (b : Bool) → ((v : Unit {0}) → Ended (walk (plain p) f y k v)) → Ended (branch b (through (to (p.go y n)) f (λ t. walk (plain p) f y k t)) (λ t. walk (plain p) f y k t) u)
      go true r = and_then-rest (says_any (f (p.go y n) u)) r
      go false r = r u

  pub enter-hits : (d : ℕ) (y : Y) → Hits p d y → (u : Unit {0}) → Ended (enter (plain p) d y u)
  unfolding plain enter and_then branch Hits
  enter-hits zero y h u = rw h.0 (h.1 u)
  enter-hits (suc d) y h u = walk-hits (enter (plain p) d) y h.0 p.moves h.1 h.2 (λ v. enter-hits d (p.go y h.0) h.3 v) u

  -- what the plain search says
  pub plain-says : {P : A → Type 0} (I : ℕ → Y → Type 0) → ((d : ℕ) (y : Y) (m : M) → In m p.moves → I (suc d) y → I d (p.go y m)) → ((y : Y) → I 0 y → p.ends y ≡ true → (u : Unit {0}) → Says P (p.finish y u)) → (d : ℕ) (y : Y) → I d y → (u : Unit {0}) → Says P (enter (plain p) d y u)
  unfolding plain
  plain-says I step last d y i u = enter-says (plain p) I (λ s. silent) (λ d y m k i. goes (step d y m k i)) last d y i u
