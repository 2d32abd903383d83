-- What the contracts come to: a walk is a list of moves; the rule of the check is right, and so is the builder;
-- any two results that a contract allows are equal. Assumes nothing.
use mathlib.Core.Path.{◌≡◌, refl, sym, ap, subst, ◌∙◌}
use mathlib.Core.List.{List, [], ◌∷◌, ◌++◌}
use mathlib.Core.Logic.{◌↔◌, inl, inr}
use Prim.Native.Nat.{ℕ, zero, suc, ◌+◌, ◌*◌, ◌<◌}
use native.Mathlib.Nat.{add-zero, zero-add}
use native.Mathlib.Omega.{arith}
use lib.ListN.{length, length-append}
use lib.Seq.{ext_get_or}
use Rattle.base.specs.Lists.{Under}
use Rattle.base.proofs.Digits.{under-append}
use Rattle.pair_table.specs.Pairs.{next, held, run, Walks, Leads, IsTrue, Fine, Known}
use Rattle.pair_table.specs.Tables.{Ready, Inverses}
use Rattle.pair_table.specs.Answers.{Layer, Outcome, AnyOutcome}
use Rattle.pair_table.specs.Answers.{Built}
use Rattle.pair_table.specs.declared.BuildError.TheVariants.{Length, Entry, Unreached}
use Rattle.std.proofs.Common.{Ok, Err}
use Rattle.pair_table.proofs.Steps.{ready-closed, ready-pos, ready-undone}
use Rattle.pair_table.proofs.Truth.{least-one, check-law}

-- ---- a walk is a list of moves

run-snoc : (step : ℕ → ℕ → ℕ) (p : ℕ) (ms : List ℕ) (m : ℕ) → run step p (ms ++ m ∷ []) ≡ step (run step p ms) m
run-snoc step p [] m = refl
run-snoc step p (x ∷ ms) m = run-snoc step (step p x) ms m

module _ (step : ℕ → ℕ → ℕ) (k : ℕ) where
  walks-leads : (d q : ℕ) → Walks step k d q → Leads step k d q
  walks-leads zero q w = record { moves = []; count = refl; below = tt; ends = sym w }
  walks-leads (suc d) q (p, m, w, l, e) =
      let r = walks-leads d p w in
      record {
        moves = r.moves ++ m ∷ [];
        count = omega (arith, length-append r.moves (m ∷ []), r.count);
        below = under-append k r.moves (m ∷ []) r.below (l, tt);
        ends = run-snoc step 0 r.moves m ∙ ap (λ (x : ℕ). step x m) r.ends ∙ e;
      }

  go_on : (ms : List ℕ) (d p : ℕ) → Walks step k d p → Under k ms → Walks step k (d + length ms) (run step p ms)
  go_on [] d p w h = rw add-zero w
  go_on (m ∷ ms) d p w h =
      let e : suc d + length ms ≡ d + suc (length ms) = omega arith in
      subst (λ (n : ℕ). Walks step k n (run step (step p m) ms)) e (go_on ms (suc d) (step p m) (p, m, w, h.0, refl) h.1)

  -- a walk of d moves to q is a list of d moves that leads there
  pub walks-law : (d q : ℕ) → Walks step k d q ↔ Leads step k d q
  walks-law d q = (
    walks-leads d q,
    λ r. rw (zero-add, r.count, r.ends) at (go_on r.moves 0 0 refl r.below),
  )

-- ---- the check and the builder are right

module _ (t1 t2 tab : List ℕ) (n1 n2 k : ℕ) (r : Ready t1 t2 tab n1 n2 k) (inv : Inverses t1 t2 n1 n2 k) where
  -- where the entries of the move tables are below their counts and each move has an inverse, the rule of the check holds at every pair exactly when the table is true
  pub table-law : ((p : ℕ) → p < n1 * n2 → Fine (next t1 t2 n2 k) k (held tab) p) ↔ IsTrue (next t1 t2 n2 k) k (held tab) (n1 * n2)
  table-law =
      check-law (next t1 t2 n2 k) k (n1 * n2) (ready-pos t1 t2 tab n1 n2 k r) (ready-closed t1 t2 tab n1 n2 k r) (ready-undone t1 t2 tab n1 n2 k r inv) (held tab)

-- a table that the builder made whole is true
pub built-true : (t1 t2 : List ℕ) (n1 n2 k : ℕ) (tab tab' : List ℕ) → Outcome t1 t2 n1 n2 k tab tab' (Ok tt) → IsTrue (next t1 t2 n2 k) k (held tab') (n1 * n2)
built-true t1 t2 n1 n2 k tab tab' o p l = (o.2 p l).1

-- ---- any two results are equal

-- what the builder leaves at a pair is one number
known-one : (step : ℕ → ℕ → ℕ) (k p v w : ℕ) → Known step k 254 p v → Known step k 254 p w → v ≡ w
known-one step k p v w (inl a) (inl b) = least-one step k p v w a.1 b.1
known-one step k p v w (inl a) (inr b) = absurd (b.1 v a.0 a.1.walk)
known-one step k p v w (inr a) (inl b) = absurd (a.1 w b.0 b.1.walk)
known-one step k p v w (inr a) (inr b) = a.0 ∙ sym b.0

-- and so is the table that it leaves
pub layer-one : (step : ℕ → ℕ → ℕ) (k n : ℕ) (u v : List ℕ) → length u ≡ n → length v ≡ n → Layer step k n 254 u → Layer step k n 254 v → u ≡ v
layer-one step k n u v lu lv a b =
    ext_get_or 255 u v (lu ∙ sym lv) (λ i l. let li : i < n = omega arith in known-one step k i _ _ (a i li) (b i li))

module _ (t1 t2 : List ℕ) (n1 n2 k : ℕ) (tab : List ℕ) where
  table-one : (u v : List ℕ) → Ready t1 t2 tab n1 n2 k → length u ≡ length tab → length v ≡ length tab
      → Layer (next t1 t2 n2 k) k (n1 * n2) 254 u → Layer (next t1 t2 n2 k) k (n1 * n2) 254 v → u ≡ v
  table-one u v r lu lv = layer-one (next t1 t2 n2 k) k (n1 * n2) u v (lu ∙ r.sized.pairs) (lv ∙ r.sized.pairs)

  -- what a whole table has
  done-layer : (u : List ℕ) → Outcome t1 t2 n1 n2 k tab u (Ok tt) → Layer (next t1 t2 n2 k) k (n1 * n2) 254 u
  done-layer u o p l = inl (o.2 p l)

  -- no table is both whole and not
  clash : (u v : List ℕ) → Outcome t1 t2 n1 n2 k tab u (Ok tt) → Outcome t1 t2 n1 n2 k tab v (Err Unreached) → ⊥
  clash u v a b =
      let e : u ≡ v = table-one u v a.0 a.1 b.1 (done-layer u a) b.2 in
      let (p, l, h) = b.3 in
      omega (arith, (a.2 p (omega (arith, a.0.sized.pairs, b.1))).0, ap (λ (t : List ℕ). held t p) e)

  -- the builder has one answer, and leaves one table
  pub outcome-one : (u v : List ℕ) (x y : Built) → Outcome t1 t2 n1 n2 k tab u x → Outcome t1 t2 n1 n2 k tab v y → (x ≡ y) × (u ≡ v)
  outcome-one u v (Err Length) (Err Length) a b = (refl, a.1 ∙ sym b.1)
  outcome-one u v (Err Length) (Err Entry) a b = absurd (a.0 b.0)
  outcome-one u v (Err Length) (Ok _) a b = absurd (a.0 b.0.sized)
  outcome-one u v (Err Length) (Err Unreached) a b = absurd (a.0 b.0.sized)
  outcome-one u v (Err Entry) (Err Length) a b = absurd (b.0 a.0)
  outcome-one u v (Err Entry) (Err Entry) a b = (refl, a.2 ∙ sym b.2)
  outcome-one u v (Err Entry) (Ok _) a b = absurd (a.1 (b.0.below1, b.0.below2))
  outcome-one u v (Err Entry) (Err Unreached) a b = absurd (a.1 (b.0.below1, b.0.below2))
  outcome-one u v (Ok _) (Err Length) a b = absurd (b.0 a.0.sized)
  outcome-one u v (Ok _) (Err Entry) a b = absurd (b.1 (a.0.below1, a.0.below2))
  outcome-one u v (Ok _) (Ok _) a b = (refl, table-one u v a.0 a.1 b.1 (done-layer u a) (done-layer v b))
  outcome-one u v (Ok _) (Err Unreached) a b = absurd (clash u v a b)
  outcome-one u v (Err Unreached) (Err Length) a b = absurd (b.0 a.0.sized)
  outcome-one u v (Err Unreached) (Err Entry) a b = absurd (b.1 (a.0.below1, a.0.below2))
  outcome-one u v (Err Unreached) (Ok _) a b = absurd (clash v u b a)
  outcome-one u v (Err Unreached) (Err Unreached) a b = (refl, table-one u v a.0 a.1 b.1 a.2 b.2)

  -- so has it at any counts
  pub any-outcome-one : (u v : List ℕ) (x y : Built) → AnyOutcome t1 t2 n1 n2 k tab u x → AnyOutcome t1 t2 n1 n2 k tab v y → (x ≡ y) × (u ≡ v)
  any-outcome-one u v x y (inl a) (inl b) = outcome-one u v x y a.1 b.1
  any-outcome-one u v x y (inl a) (inr b) = absurd (b.0 a.0)
  any-outcome-one u v x y (inr a) (inl b) = absurd (a.0 b.0)
  any-outcome-one u v x y (inr a) (inr b) = (a.1 ∙ sym b.1, a.2 ∙ sym b.2)
