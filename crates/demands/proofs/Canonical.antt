-- Every list of moves has one of at most its length, with the same effect, in which each move is available after the one before it.
-- Assumes nothing.
use Prim.Native.Nat.{ℕ, zero, suc, ◌+◌, ◌*◌, ◌/◌, ◌%◌, ◌<◌, ◌≤◌}
use mathlib.Core.Path.{◌≡◌, refl, sym, ap, ◌∙◌}
use mathlib.Core.Bool.{Bool, true, false, not, ◌&&◌}
use mathlib.Core.Logic.{⊎_elim}
use mathlib.Core.List.{List, [], ◌∷◌}
use lib.Dec.{eqb, leb}
use lib.ListN.{length}
use native.Mathlib.Nat.{eq-or-lt_of_le}
use native.Mathlib.Omega.{arith}
use borrow.Author.Tests.{eqb-true, eqb-false, leb-true, leb-false}
use Rattle.base.specs.Lists.{pick, all_below, Under}
use Rattle.base.proofs.Tests.{below_true}
use Rattle.cubie.specs.Cube.{InRange, turn, apply_moves}
use Rattle.cubie.specs.declared.CubieCube.{CubieCube}
use Rattle.cubie.proofs.Turns.{turn-range}
use Rattle.moves.specs.Moves.{is_inverse, is_same_layer, is_available}
use Rattle.demands.proofs.Layers.{quarters, again, across}

-- each of the list is a move, available after the one before it; `last`: the move before the first, 18 where there is none
unfoldable pub Fits : ℕ → List ℕ → Type 0
Fits last [] = Unit {0}
Fits last (m ∷ l) = (m < 18) × (is_available last m ≡ true) × Fits m l

-- ---- what the availability rule says: about one axis, the layer rises. Layer m / 3 is U D R L F B, axis m / 6

abbrev Rises : ℕ → ℕ → Type 0
Rises last m = last / 6 ≡ m / 6 → last / 3 < m / 3

-- m may follow `last`, or it is about the same axis and of no higher layer
data Order (last m : ℕ) : Type 0 where
  free : is_available last m ≡ true → Rises last m → Order last m
  barred : is_available last m ≡ false → last / 6 ≡ m / 6 → m / 3 ≤ last / 3 → Order last m

-- of all moves, after each and after none
rule : ℕ → ℕ → Bool
rule last m =
    pick (is_available last m) (not (eqb (last / 6) (m / 6) && leb (m / 3) (last / 3))) (eqb (last / 6) (m / 6) && leb (m / 3) (last / 3))

rules-hold : all_below (λ last. all_below (rule last) 18) 19 ≡ true
unfolding rule is_available is_inverse is_same_layer
rules-hold = refl

order : (last m : ℕ) → last < 19 → m < 18 → Order last m
unfolding rule
order last m h k =
    go (is_available last m) (eqb (last / 6) (m / 6)) (leb (m / 3) (last / 3)) refl refl refl (below_true (rule last) 18 (below_true (λ last. all_below (rule last) 18) 19 rules-hold last h) m k)
  where
    go : (a p q : Bool) → is_available last m ≡ a → eqb (last / 6) (m / 6) ≡ p → leb (m / 3) (last / 3) ≡ q → pick a (not (p && q)) (p && q) ≡ true → Order last m
    go true true true ea ep eq e = let z : ◌≡◌ {A = ℕ} 0 1 = cc in absurd (omega arith)
    go true true false ea ep eq e = free ea (λ f. omega (arith, leb-false (m / 3) (last / 3) eq))
    go true false q ea ep eq e = free ea (λ f. absurd (eqb-false (last / 6) (m / 6) ep f))
    go false true true ea ep eq e = barred ea (eqb-true _ _ ep) (leb-true _ _ eq)
    go false true false ea ep eq e = let z : ◌≡◌ {A = ℕ} 0 1 = cc in absurd (omega arith)
    go false false q ea ep eq e = let z : ◌≡◌ {A = ℕ} 0 1 = cc in absurd (omega arith)

avail-by : (last m : ℕ) → last < 19 → m < 18 → Rises last m → is_available last m ≡ true
avail-by last m b s h = go (order last m b s)
  where
    go : Order last m → is_available last m ≡ true
    go (free a r) = a
    go (barred a e l) = absurd (omega (arith, h e))

avail-rises : (last m : ℕ) → last < 19 → m < 18 → is_available last m ≡ true → Rises last m
avail-rises last m b s h = go (order last m b s)
  where
    go : Order last m → Rises last m
    go (free a r) = r
    go (barred a e l) = let z : ◌≡◌ {A = ℕ} 0 1 = cc in omega arith

fits_after : (p q : ℕ) (l : List ℕ) → p < 19 → q < 19 → ((m : ℕ) → m < 18 → Rises p m → Rises q m) → Fits p l → Fits q l
unfolding Fits
fits_after p q [] a b f h = tt
fits_after p q (m ∷ l) a b f h = (h.0, avail-by q m b h.0 (f m h.0 (avail-rises p m a h.0 h.1)), h.2)

-- ---- the law

-- a list that may follow `last`, for l
pub record Canonical (last : ℕ) (l : List ℕ) : Type 0 where
  pub list : List ℕ
  pub fits : Fits last list
  pub short : length list ≤ length l
  pub same : (c : CubieCube) → InRange c → apply_moves c list ≡ apply_moves c l

-- if p is a move at all, it is one about the axis of m, of the lower layer
abbrev Lower : ℕ → ℕ → Type 0
Lower p m = (k : ℕ) → k < 18 → p / 6 ≡ k / 6 → (p / 6 ≡ m / 6) × (p / 3 < m / 3)

-- one more move in front of a list that may follow p
insert : (p m : ℕ) → p < 19 → m < 18 → Lower p m → (l : List ℕ) → Fits p l → Canonical p (m ∷ l)
unfolding Fits apply_moves
insert p m b s near [] h = record { list = m ∷ []; fits = (s, avail-by p m b s (λ e. (near m s e).1), tt); short = omega arith; same = λ c g. refl }
insert p m b s near (n ∷ l) h = go (order m n (omega arith) h.0) (λ k. insert n m (omega (arith, h.0)) s k l h.2)
  where
    -- the two are of one layer, and make a quarter turns of it
    merge : (a : ℕ) → (m % 3 + n % 3 + 2) % 4 ≡ a → m / 3 ≡ n / 3 → Canonical p (m ∷ n ∷ l)
    merge zero q e = record {
      list = l;
      fits = fits_after n p l (omega (arith, h.0)) b (λ k t r f. let u = near k t f in omega (arith, r (omega arith))) h.2;
      short = omega arith;
      same = λ c g. ap (λ (z : CubieCube). apply_moves z l) (sym (again g m n s h.0 e ∙ ap (quarters c (m / 3)) q));
    }
    merge (suc a) q e =
        let low : m / 3 * 3 + a < 18 = omega arith in
        record {
          list = (m / 3 * 3 + a) ∷ l;
          fits = (low, avail-by p (m / 3 * 3 + a) b low (λ f. omega (arith, (near m s (omega arith)).1)), fits_after n (m / 3 * 3 + a) l (omega (arith, h.0)) (omega arith) (λ k t r f. omega (arith, r (omega arith))) h.2);
          short = omega arith;
          same = λ c g. ap (λ (z : CubieCube). apply_moves z l) (sym (again g m n s h.0 e ∙ ap (quarters c (m / 3)) q));
        }

    -- n is of the lower layer about the axis of m: m goes behind it
    swap : m / 6 ≡ n / 6 → Canonical n (m ∷ l) → Canonical p (m ∷ n ∷ l)
    swap e d = record {
      list = n ∷ d.list;
      fits = (h.0, h.1, d.fits);
      short = omega (arith, d.short);
      same = λ c g. d.same (turn c n) (turn-range g n h.0) ∙ ap (λ (z : CubieCube). apply_moves z l) (sym (across g m n s h.0 e));
    }

    go : Order m n → (Lower n m → Canonical n (m ∷ l)) → Canonical p (m ∷ n ∷ l)
    go (free a r) rest = record { list = m ∷ n ∷ l; fits = (s, avail-by p m b s (λ e. (near m s e).1), (h.0, a, h.2)); short = omega arith; same = λ c g. refl }
    go (barred a e i) rest = ⊎_elim (λ (q : n / 3 ≡ m / 3). merge ((m % 3 + n % 3 + 2) % 4) refl (sym q)) (λ (q : n / 3 < m / 3). swap e (rest (λ k t f. (sym e, q)))) (eq-or-lt_of_le i)

pub canonical : (l : List ℕ) → Under 18 l → Canonical 18 l
unfolding Fits apply_moves
canonical [] h = record { list = []; fits = tt; short = omega arith; same = λ c g. refl }
canonical (m ∷ l) h =
    let d = canonical l h.1 in
    let e = insert 18 m (omega arith) h.0 (λ k s e. omega arith) d.list d.fits in
    record {
      list = e.list;
      fits = e.fits;
      short = omega (arith, e.short, d.short);
      same = λ c g. e.same c g ∙ d.same (turn c m) (turn-range g m h.0);
    }
