-- Breadth first: what is known of the table before, in and after a sweep. Assumes nothing.
use mathlib.Core.Path.{◌≡◌, refl, sym, ap, subst, ◌∙◌}
use mathlib.Core.List.{List}
use mathlib.Core.Logic.{◌⊎◌, inl, inr, ⊎_elim}
use Prim.Native.Nat.{ℕ, zero, suc, ◌+◌, ◌*◌, ◌≤◌, ◌<◌, zero-le}
use native.Mathlib.Nat.{not-suc-le-zero, suc-ne-zero, eq-or-lt_of_le}
use native.Mathlib.Numerals.{add-one}
use native.Mathlib.Decide.{dec_le, ℕ_discrete}
use native.Mathlib.Omega.{arith}
use lib.ListN.{length, set, replicate, length-replicate}
use lib.Seq.{get_or-set_same, get_or-set_other}
use borrow.Author.Count.{below_more}
use Rattle.pair_table.specs.Pairs.{next, held, Walks, Least}
use Rattle.pair_table.specs.Tables.{Ready, Closed}
use Rattle.pair_table.specs.Answers.{Layer, ExpandedAt, Expanded, Unreached255, Outcome}
use Rattle.pair_table.specs.declared.BuildError.TheVariants.{Unreached}
use Rattle.std.specs.Prelude.{Ok, Err}
use Rattle.pair_table.proofs.Truth.{walk-in, least-one}

-- ---- expanding one pair

pub expanded-none : (step : ℕ → ℕ → ℕ) (p d : ℕ) (tab : List ℕ) → Expanded step p d 0 tab tab
expanded-none step p d tab q = inl (refl, λ _ m' l. absurd (not-suc-le-zero l))

module _ (step : ℕ → ℕ → ℕ) (p d m : ℕ) (tab tab' : List ℕ) (x : Expanded step p d m tab tab') where
  -- the neighbour by move m does not hold 255: nothing changes
  pub expanded-keep : (held tab' (step p m) ≡ 255 → ⊥) → Expanded step p d (m + 1) tab tab'
  expanded-keep ne q = ⊎_elim
      (λ w. inl (w.0, λ h. below_more (λ m'. step p m' ≡ q → ⊥) m (w.1 h) (λ e. ne (ap (held tab') e ∙ w.0 ∙ h))))
      (λ w. inr (w.0, w.1, (w.2.0, omega (arith, w.2.1), w.2.2)))
      (x q)

  -- it holds 255: it gets d
  pub expanded-set : step p m < length tab' → held tab' (step p m) ≡ 255 → Expanded step p d (m + 1) tab (set tab' (step p m) d)
  expanded-set l h q = go (ℕ_discrete q (step p m))
    where
      same : q ≡ step p m → held (set tab' (step p m) d) q ≡ d
      same e = ap (held (set tab' (step p m) d)) e ∙ get_or-set_same tab' (step p m) d 255 l

      go : Dec (q ≡ step p m) → ExpandedAt step p d (m + 1) q (held tab q) (held (set tab' (step p m) d) q)
      go (yes e) = inr (same e, ⊎_elim (λ w. sym w.0 ∙ ap (held tab') e ∙ h) (λ w. w.1) (x q), (m, omega arith, sym e))
      go (no ne) =
          let o : held (set tab' (step p m) d) q ≡ held tab' q = get_or-set_other tab' (step p m) q d 255 ne in
          ⊎_elim
          (λ w. inl (o ∙ w.0, λ h'. below_more (λ m'. step p m' ≡ q → ⊥) m (w.1 h') (λ e. ne (sym e))))
          (λ w. inr (o ∙ w.0, w.1, (w.2.0, omega (arith, w.2.1), w.2.2)))
          (x q)

-- ---- one sweep, at distance d, when the pairs below P have been passed

module _ (step : ℕ → ℕ → ℕ) (k d : ℕ) where
  -- no pair below P at distance d has q for a neighbour
  abbrev Apart : ℕ → ℕ → Type 0
  Apart P q = (p : ℕ) → p < P → Least step k p d → (m : ℕ) → m < k → step p m ≡ q → ⊥

  -- what q holds: its least number of moves, or 255 where it has no walk of at most d moves, and no pair passed leads to it by one more
  abbrev pub SweptAt : ℕ → ℕ → ℕ → Type 0
  SweptAt P q v = ((v ≤ d + 1) × Least step k q v) ⊎ ((v ≡ 255) × ((e : ℕ) → e ≤ d → Walks step k e q → ⊥) × Apart P q)

  abbrev pub Swept : ℕ → ℕ → List ℕ → Type 0
  Swept n P tab = (q : ℕ) → q < n → SweptAt P q (held tab q)

  pub swept_none : (n : ℕ) (tab : List ℕ) → Layer step k n d tab → Swept n 0 tab
  swept_none n tab y q l = ⊎_elim (λ w. inl (omega (arith, w.0), w.1)) (λ w. inr (w.0, w.1, λ p lp. absurd (not-suc-le-zero lp))) (y q l)

  module _ (n P : ℕ) (tab : List ℕ) (y : Swept n P tab) (l_p : P < n) (small : d < 254) where
    -- P does not hold d: it is not at distance d
    pub swept-skip : (held tab P ≡ d → ⊥) → Swept n (P + 1) tab
    swept-skip ne q l = ⊎_elim inl (λ w. inr (w.0, w.1, below_more (λ p. Least step k p d → (m : ℕ) → m < k → step p m ≡ q → ⊥) P w.2 far)) (y q l)
      where
        far : Least step k P d → (m : ℕ) → m < k → step P m ≡ q → ⊥
        far a m lm e = ⊎_elim (λ w. ne (least-one step k P (held tab P) d w.1 a)) (λ w. w.1 d (omega arith) a.walk) (y P l_p)

    -- P holds d: it is at distance d
    at-d : held tab P ≡ d → Least step k P d
    at-d e = ⊎_elim (λ w. subst (λ (v : ℕ). Least step k P v) e w.1) (λ w. absurd (omega (arith, w.0))) (y P l_p)

    -- so a neighbour that held 255 is at distance d + 1
    found : (q m : ℕ) → q < n → held tab P ≡ d → held tab q ≡ 255 → m < k → step P m ≡ q → Least step k q (d + 1)
    found q m lq e h lm s = record {
      walk = subst (λ (x : ℕ). Walks step k x q) (sym (add-one d)) (P, m, (at-d e).walk, lm, s);
      least = λ x w. far x w (dec_le (d + 1) x);
    }
      where
        far : (x : ℕ) → Walks step k x q → Dec (d + 1 ≤ x) → d + 1 ≤ x
        far x w (yes le) = le
        far x w (no nl) = ⊎_elim (λ z. absurd (omega (arith, z.0))) (λ z. absurd (z.1 x (omega arith) w)) (y q lq)

    pub swept-expand : (tab' : List ℕ) → held tab P ≡ d → Expanded step P (d + 1) k tab tab' → Swept n (P + 1) tab'
    swept-expand tab' e x q l = ⊎_elim old new (x q)
      where
        old : (held tab' q ≡ held tab q) × (held tab q ≡ 255 → (m : ℕ) → m < k → step P m ≡ q → ⊥) → SweptAt (P + 1) q (held tab' q)
        old o = rw o.0 (⊎_elim inl (λ w. inr (w.0, w.1, below_more (λ p. Least step k p d → (m : ℕ) → m < k → step p m ≡ q → ⊥) P w.2 (λ _. o.1 w.0))) (y q l))

        new : (held tab' q ≡ d + 1) × (held tab q ≡ 255) × ((m : ℕ) × (m < k) × (step P m ≡ q)) → SweptAt (P + 1) q (held tab' q)
        new o = rw o.0 (inl (omega arith, found q o.2.0 l e o.1 o.2.1 o.2.2))

  -- all pairs have been passed
  module _ (n : ℕ) (pos : 0 < n) (closed : Closed step k n) (tab : List ℕ) where
    -- a pair with no walk of at most d moves, to which no pair at distance d leads, has no walk of d + 1 moves
    module _ (q : ℕ) (none : (e : ℕ) → e ≤ d → Walks step k e q → ⊥) (apart : Apart n q) where
      last : Walks step k (suc d) q → ⊥
      last (p, m, w, lm, s) = apart p (walk-in step k n pos closed d p w) (record { walk = w; least = λ e z. near e z (dec_le d e) }) m lm s
        where
          near : (e : ℕ) → Walks step k e p → Dec (d ≤ e) → d ≤ e
          near e z (yes le) = le
          near e z (no nl) = absurd (none (suc e) (omega arith) (p, m, z, lm, s))

      no_more : (e : ℕ) → Walks step k e q → (e ≡ d + 1) ⊎ (e < d + 1) → ⊥
      no_more e z (inl h) = last (subst (λ (x : ℕ). Walks step k x q) (h ∙ add-one d) z)
      no_more e z (inr h) = none e (omega arith) z

    pub swept_all : Swept n n tab → Layer step k n (d + 1) tab
    swept_all y q l = ⊎_elim inl (λ w. inr (w.0, λ e le z. no_more q w.1 w.2 e z (eq-or-lt_of_le le))) (y q l)

    -- a sweep that changed nothing: no walk leads on
    module _ (small : d < 254) (y : Layer step k n d tab) (y' : Layer step k n (d + 1) tab) where
      reach : (e q : ℕ) → Walks step k e q → held tab q ≤ d
      reach zero q w = ⊎_elim (λ z. z.0) (λ z. absurd (z.1 0 zero-le w)) (y q (walk-in step k n pos closed 0 q w))
      reach (suc e) q (p, m, w, lm, s) =
          let lq : q < n = walk-in step k n pos closed (suc e) q (p, m, w, lm, s) in
          let h : held tab p ≤ d = reach e p w in
          ⊎_elim
          (λ a. ⊎_elim (λ z. z.0) (λ z. ⊎_elim (λ z'. absurd (omega (arith, z.0, z'.0))) (λ z'. absurd (z'.1 (suc (held tab p)) (omega arith) (p, m, a.1.walk, lm, s))) (y' q lq)) (y q lq))
          (λ a. absurd (omega (arith, a.0)))
          (y p (walk-in step k n pos closed e p w))

      pub stuck : Layer step k n 254 tab
      stuck q l = ⊎_elim (λ w. inl (omega (arith, w.0), w.1)) (λ w. inr (w.0, λ e _ z. omega (arith, w.0, reach e q z))) (y q l)

-- ---- the first table: pair 0 holds 0, and all else 255

held-clear : (n q : ℕ) → held (replicate n 255) q ≡ 255
held-clear zero q = refl
held-clear (suc n) zero = refl
held-clear (suc n) (suc q) = held-clear n q

module _ (step : ℕ → ℕ → ℕ) (k n N : ℕ) (tab : List ℕ) (clear : tab ≡ replicate N 255) (pos : 0 < N) where
  -- a pair other than 0 has no walk of no moves
  apart-first : (q e : ℕ) → e ≤ 0 → Walks step k e (suc q) → ⊥
  apart-first q zero le w = omega arith
  apart-first q (suc e) le w = not-suc-le-zero le

  pub layer-first : Layer step k n 0 (set tab 0 0)
  layer-first zero l =
      let z : held (set tab 0 0) 0 ≡ 0 = get_or-set_same tab 0 0 255 (rw (clear, length-replicate) pos) in
      inl (omega arith, rw z (record { walk = refl; least = λ e _. zero-le }))
  layer-first (suc q) l =
      inr (get_or-set_other tab 0 (suc q) 0 255 (suc-ne-zero q) ∙ ap (λ (t : List ℕ). held t (suc q)) clear ∙ held-clear N (suc q), apart-first q)

-- ---- the last table

-- where no pair holds 255, each holds its least number of moves
all_known : (step : ℕ → ℕ → ℕ) (k n : ℕ) (tab : List ℕ) → Layer step k n 254 tab → length tab ≡ n → (Unreached255 tab → ⊥) →
    (p : ℕ) → p < n → (held tab p ≤ 254) × Least step k p (held tab p)
all_known step k n tab y e none p l = ⊎_elim (λ w. w) (λ w. absurd (none (p, omega arith, w.0))) (y p l)

-- what the builder may answer of it
module _ (t1 t2 tab tab' : List ℕ) (n1 n2 k : ℕ) (r : Ready t1 t2 tab n1 n2 k) (e : length tab' ≡ length tab) (y : Layer (next t1 t2 n2 k) k (n1 * n2) 254 tab') where
  pub last-unreached : Unreached255 tab' → Outcome t1 t2 n1 n2 k tab tab' (Err Unreached)
  last-unreached u = (r, e, y, u)

  pub last_done : (Unreached255 tab' → ⊥) → Outcome t1 t2 n1 n2 k tab tab' (Ok tt)
  last_done none = (r, e, all_known (next t1 t2 n2 k) k (n1 * n2) tab' y (e ∙ r.sized.pairs) none)
