-- The true move tables: every entry is below its count, and each column has an inverse column. Shown once for any coordinate whose arrangements
-- stay in a domain under the moves of its columns; then that each of the six is one. Assumes nothing.
use mathlib.Core.Path.{◌≡◌, refl, sym, ap, ap₂, subst, ◌∙◌}
use mathlib.Core.Bool.{Bool, true}
use mathlib.Core.List.{List, [], ◌∷◌, map}
use Prim.Native.Nat.{ℕ, zero, suc, ◌+◌, ◌%◌, ◌<◌}
use native.Mathlib.Nat.{mod-mod}
use native.Mathlib.Omega.{arith}
use lib.ListN.{length, get_or, take, drop, length-map, length-take, length-drop}
use lib.Seq.{get_or-take, get_or-drop}
use Rattle.base.specs.Lists.{pick, in_range, Under, Sized, total}
use Rattle.base.specs.Perm.{less, below, perm_of, no_repeat, Perm}
use Rattle.base.specs.Product.{compose}
use Rattle.base.proofs.Combo.{combo-back, combo-ext, combo-small}
use Rattle.base.proofs.Digits.{orientation-sized, orientation-sum, number-below}
use Rattle.base.proofs.Parity.{total-places, compose-perm}
use Rattle.base.proofs.Perm.{total-map, perm_of-perm, perm_of-number}
use Rattle.base.proofs.Product.{map_at, compose-sized, twisted-sized, total-twisted}
use Rattle.base.proofs.Tests.{in_range-under}
use Rattle.cubie.specs.Cube.{InRange, product, move_of, turn}
use Rattle.moves.specs.Moves.{inverse_move, all_moves, phase2_moves}
use Rattle.cubie.specs.Solvable.{solvable}
use Rattle.cubie.specs.declared.CubieCube.{CubieCube}
use Rattle.cubie.proofs.Product.{solved-product}
use Rattle.cubie.proofs.Solvable.{Parts, solvable-parts, solved-solvable, turn-solvable}
use Rattle.cubie.proofs.Turns.{solved-range, move-range, inverse-undoes}
use Rattle.numbering.specs.Coordinates.{e_combo_number, e_combo_of, ud_places, ud_ep_of, e_places, e_ep_of}
use Rattle.numbering.specs.Kinds.{Kind, co, eo, e_combo, cp, ud_ep, e_ep, after}
use Rattle.numbering.proofs.Numbers.{number_small, two-tests, e-places, co-numbered, eo-numbered, e-combo-numbered, cp-numbered, ud-ep-numbered, e-ep-numbered}
use Rattle.columns.proofs.Columns.{phase1-column, phase2-column}
use Rattle.numbering.proofs.Phases.{twists-sum, mask-compose, compose-ext, map-drop, map-take, front, lowered, lowered-back, lowered-perm, stays-inside, eight-own, four-own, ud-after, e-after}
use Rattle.numbering.proofs.Survives.{co-survives, eo-survives, e-combo-survives}

-- ---- a coordinate, the moves of its columns, and a domain of arrangements that they keep

pub record Keeps (k : Kind) (moves : List ℕ) (D : List ℕ → Type 0) : Type 0 where
  pub columns : (j : ℕ) → j < length moves → get_or moves j 0 < 18
  pub starts : (n : ℕ) → n < k.count → D (k.arrangement n)
  pub numbered : (n : ℕ) → n < k.count → k.number (k.arrangement n) ≡ n
  pub ranged : (xs : List ℕ) → D xs → InRange (k.holding xs)
  pub bounded : (xs : List ℕ) → D xs → k.number xs < k.count
  pub held : (xs : List ℕ) → k.part (k.holding xs) ≡ xs
  -- a move of the rest of the cube doesn't matter
  pub local : (c : CubieCube) (m : ℕ) → k.part (turn c m) ≡ k.part (turn (k.holding (k.part c)) m)
  pub kept : (xs : List ℕ) → D xs → (j : ℕ) → j < length moves → D (k.part (turn (k.holding xs) (get_or moves j 0)))
  pub own : (xs : List ℕ) → D xs → (j : ℕ) → j < length moves
      → k.number (k.part (turn (k.holding xs) (get_or moves j 0))) ≡ after k (k.number xs) (get_or moves j 0)

module _ {k : Kind} {moves : List ℕ} {D : List ℕ → Type 0} (w : Keeps k moves D) where
  pub after_small : (n : ℕ) → n < k.count → (j : ℕ) → j < length moves → after k n (get_or moves j 0) < k.count
  after_small n h j l = w.bounded (k.part (turn (k.holding (k.arrangement n)) (get_or moves j 0))) (w.kept (k.arrangement n) (w.starts n h) j l)

  pub after-undone : (n : ℕ) → n < k.count → (j i : ℕ) → j < length moves → i < length moves → get_or moves i 0 ≡ inverse_move (get_or moves j 0)
      → after k (after k n (get_or moves j 0)) (get_or moves i 0) ≡ n
  after-undone n h j i l g e =
      let m = get_or moves j 0 in
      let xs = k.arrangement n in
      let c = k.holding xs in
      let d = w.starts n h in
      let ys = k.part (turn c m) in
      sym (w.own ys (w.kept xs d j l) i g)
      ∙ ap k.number (sym (w.local (turn c m) (get_or moves i 0)) ∙ ap (λ (b : ℕ). k.part (turn (turn c m) b)) e
      ∙ ap k.part (inverse-undoes (w.ranged xs d) m (w.columns j l)) ∙ w.held xs)
      ∙ w.numbered n h

-- a move's cube is solvable
move-parts : (m : ℕ) → m < 18 → Parts (move_of m)
move-parts m h =
    let r = move-range m h in
    solvable-parts r (subst (λ (c : CubieCube). solvable c ≡ true) (solved-product r) (turn-solvable solved-range solved-solvable m h))

-- ---- co and eo: the sum is 0

abbrev Oriented : ℕ → ℕ → List ℕ → Type 0
Oriented k n xs = Sized (suc n) k xs × (total (λ x. x) xs % k ≡ 0)

sums-add : (k : ℕ) → 0 < k → (x y : ℕ) → x < k → y < k → (x + y) % k % k ≡ (x + y) % k
sums-add k pos x y h l = mod-mod (x + y) k

pub co-keeps : Keeps co all_moves (Oriented 3 7)
unfolding product
co-keeps = record {
  columns = phase1-column;
  starts = λ n h. (orientation-sized 3 (omega arith) 7 n h, orientation-sum 3 (omega arith) 7 n);
  numbered = λ n h. (co-numbered.back n h).2;
  ranged = λ xs d. record { cp = solved-range.cp; co = d.0; ep = solved-range.ep; eo = solved-range.eo };
  bounded = λ xs d. number-below 3 (omega arith) 7 xs d.0;
  held = λ xs. refl;
  local = λ c m. refl;
  kept = λ xs d j h.
      let m = get_or all_moves j 0 in
      let b = phase1-column j h in
      let r = move-range m b in
      let p = move-parts m b in
      let z : total (λ x. x) (move_of m).co % 3 ≡ 0 = omega (arith, twists-sum (move_of m).co r.co.small, p.twists) in
      (twisted-sized xs (omega arith) r.cp r.co, total-twisted 3 (λ x. x) (sums-add 3 (omega arith)) d.0 p.corners r.co ∙ omega (arith, d.1, z));
  own = λ xs d j h. ap (λ (ys : List ℕ). co.number (co.part (turn (co.holding ys) (get_or all_moves j 0)))) (sym (co-survives xs d.0 d.1));
}

pub eo-keeps : Keeps eo all_moves (Oriented 2 11)
unfolding product
eo-keeps = record {
  columns = phase1-column;
  starts = λ n h. (orientation-sized 2 (omega arith) 11 n h, orientation-sum 2 (omega arith) 11 n);
  numbered = λ n h. (eo-numbered.back n h).2;
  ranged = λ xs d. record { cp = solved-range.cp; co = solved-range.co; ep = solved-range.ep; eo = d.0 };
  bounded = λ xs d. number-below 2 (omega arith) 11 xs d.0;
  held = λ xs. refl;
  local = λ c m. refl;
  kept = λ xs d j h.
      let m = get_or all_moves j 0 in
      let b = phase1-column j h in
      let r = move-range m b in
      let p = move-parts m b in
      (twisted-sized xs (omega arith) r.ep r.eo, total-twisted 2 (λ x. x) (sums-add 2 (omega arith)) d.0 p.edges r.eo ∙ omega (arith, d.1, p.flips));
  own = λ xs d j h. ap (λ (ys : List ℕ). eo.number (eo.part (turn (eo.holding ys) (get_or all_moves j 0)))) (sym (eo-survives xs d.0 d.1));
}

-- ---- e_combo: four places hold an edge below 4

abbrev FourLow : List ℕ → Type 0
FourLow xs = Sized 12 12 xs × (below 4 xs ≡ 4)

pub e-combo-keeps : Keeps e_combo all_moves FourLow
unfolding product
e-combo-keeps = record {
  columns = phase1-column;
  starts = λ n h. let b = combo-back n h in (b.0, b.1);
  numbered = λ n h. (e-combo-numbered.back n h).2;
  ranged = λ xs d. record { cp = solved-range.cp; co = solved-range.co; ep = d.0; eo = solved-range.eo };
  bounded = λ xs d. combo-small xs d.0.size d.1;
  held = λ xs. refl;
  local = λ c m. refl;
  kept = λ xs d j h.
      let m = get_or all_moves j 0 in
      let b = phase1-column j h in
      let q = (move_of m).ep in
      let e : below 4 (compose xs q) ≡ below 4 xs = total-map (λ x. less x 4) (λ i. get_or xs i 0) q ∙ total-places (λ x. less x 4) xs (move-parts m b).edges d.0.size in
      (compose-sized d.0 (move-range m b).ep, e ∙ d.1);
  own = λ xs d j h.
      let m = get_or all_moves j 0 in
      let q = (move_of m).ep in
      let g = (move-range m (phase1-column j h)).ep in
      let a = e_combo_of (e_combo_number xs) in
      let b = combo-back (e_combo_number xs) (combo-small xs d.0.size d.1) in
      combo-ext 12 4 (compose xs q) (compose a q) (omega (arith, length-map q (λ i. get_or xs i 0), g.size))
      (length-map q (λ i. get_or xs i 0) ∙ sym (length-map q (λ i. get_or a i 0)))
      (mask-compose 12 xs d.0.size q g.small ∙ ap (λ (m : List ℕ). compose m q) (sym (e-combo-survives xs d.0.size d.1)) ∙ sym (mask-compose 12 a b.0.size q g.small));
}

-- ---- cp: a permutation

pub cp-keeps : Keeps cp phase2_moves (Perm 8)
unfolding product
cp-keeps = record {
  columns = phase2-column;
  starts = λ n h. perm_of-perm 8 n h;
  numbered = λ n h. (cp-numbered.back n h).2;
  ranged = λ xs d. record { cp = record { size = d.size; small = d.small }; co = solved-range.co; ep = solved-range.ep; eo = solved-range.eo };
  bounded = λ xs d. number_small 8 xs d.size;
  held = λ xs. refl;
  local = λ c m. refl;
  kept = λ xs d j h. compose-perm d (move-parts (get_or phase2_moves j 0) (phase2-column j h)).corners;
  own = λ xs d j h. ap (λ (ys : List ℕ). cp.number (cp.part (turn (cp.holding ys) (get_or phase2_moves j 0)))) (sym (perm_of-number 8 xs d));
}

-- ---- ud_ep and e_ep: the eight places hold 4 to 11, or the four hold 0 to 3, each once

pub record Eight (xs : List ℕ) : Type 0 where
  pub range : Sized 12 12 xs
  pub order : List ℕ
  pub perm : Perm 8 order
  pub is : drop 4 xs ≡ map (λ x. 4 + x) order

abbrev Four : List ℕ → Type 0
Four xs = Sized 12 12 xs × Perm 4 (take 4 xs)

map-map : (f g : ℕ → ℕ) (xs : List ℕ) → map f (map g xs) ≡ map (λ x. f (g x)) xs
map-map f g [] = refl
map-map f g (x ∷ xs) = ap (◌∷◌ (f (g x))) (map-map f g xs)

-- what the numbers of the places say of the range
in-range : (b : Bool) (xs : List ℕ) → pick (in_range 12 xs) (pick b 0 6) 5 ≡ zero → length xs ≡ 12 → Sized 12 12 xs
in-range b xs e l = record { size = l; small = in_range-under 12 xs (two-tests (in_range 12 xs) b 4 e).0 }

-- the eight places after a move: those of a permutation of them
eight-kept : (xs zs : List ℕ) → Perm 8 zs → drop 4 xs ≡ map (λ x. 4 + x) zs → (q : List ℕ) (p : Perm 12 q) (m : Under 4 (take 4 q))
    → drop 4 (compose xs q) ≡ map (λ x. 4 + x) (compose zs (lowered q p m))
eight-kept xs zs z e q p m =
    let lq = lowered q p m in
    map-drop (λ i. get_or xs i 0) 4 q
    ∙ ap (map (λ i. get_or xs i 0)) (sym (lowered-back q p m))
    ∙ map-map (λ i. get_or xs i 0) (λ x. 4 + x) lq
    ∙ go lq (lowered-perm q p m).small
  where
    go : (l : List ℕ) → Under 8 l → map (λ i. get_or xs (4 + i) 0) l ≡ map (λ x. 4 + x) (compose zs l)
    go [] u = refl
    go (i ∷ l) u =
        ap₂ ◌∷◌ (sym (get_or-drop 4 xs i 0) ∙ ap (λ (t : List ℕ). get_or t i 0) e ∙ map_at (λ x. 4 + x) zs i (omega (arith, u.0, z.size))) (go l u.1)

pub ud-ep-keeps : Keeps ud_ep phase2_moves Eight
unfolding product
ud-ep-keeps = record {
  columns = phase2-column;
  starts = λ n h. let b = ud-ep-numbered.back n h in
      record { range = in-range (no_repeat (ud_places (ud_ep_of n))) (ud_ep_of n) b.1 b.0; order = perm_of 8 n; perm = perm_of-perm 8 n h; is = refl };
  numbered = λ n h. (ud-ep-numbered.back n h).2;
  ranged = λ xs d. record { cp = solved-range.cp; co = solved-range.co; ep = d.range; eo = solved-range.eo };
  bounded = λ xs d. number_small 8 (ud_places xs) (simp (length-take, length-drop) (omega (arith, d.range.size)));
  held = λ xs. refl;
  local = λ c m. refl;
  kept = λ xs d j h.
      let m = get_or phase2_moves j 0 in
      let b = phase2-column j h in
      let q = (move_of m).ep in
      let p = (move-parts m b).edges in
      let i = stays-inside j h in
      record {
        range = compose-sized d.range (move-range m b).ep;
        order = compose d.order (lowered q p i);
        perm = compose-perm d.perm (lowered-perm q p i);
        is = eight-kept xs d.order d.perm d.is q p i;
      };
  own = λ xs d j h. ud-after (ud_ep.holding xs) j h (eight-own xs d.order d.perm d.is);
}

pub e-ep-keeps : Keeps e_ep phase2_moves Four
unfolding product
e-ep-keeps = record {
  columns = phase2-column;
  starts = λ n h. let b = e-ep-numbered.back n h in (in-range (no_repeat (e_places (e_ep_of n))) (e_ep_of n) b.1 b.0, subst (Perm 4) (sym (e-places n)) (perm_of-perm 4 n h));
  numbered = λ n h. (e-ep-numbered.back n h).2;
  ranged = λ xs d. record { cp = solved-range.cp; co = solved-range.co; ep = d.0; eo = solved-range.eo };
  bounded = λ xs d. number_small 4 (e_places xs) (simp length-take (omega (arith, d.0.size)));
  held = λ xs. refl;
  local = λ c m. refl;
  kept = λ xs d j h.
      let m = get_or phase2_moves j 0 in
      let b = phase2-column j h in
      let q = (move_of m).ep in
      let i = stays-inside j h in
      let e : take 4 (compose xs q) ≡ compose (take 4 xs) (take 4 q) =
      map-take (λ i. get_or xs i 0) 4 q ∙ compose-ext xs (take 4 xs) (λ i k. sym (get_or-take 4 xs i 0 k)) (take 4 q) i in
      (compose-sized d.0 (move-range m b).ep, subst (Perm 4) (sym e) (compose-perm d.1 (front q (move-parts m b).edges i)));
  own = λ xs d j h. e-after (e_ep.holding xs) j h (four-own xs d.1);
}
