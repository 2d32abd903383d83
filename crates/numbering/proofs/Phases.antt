-- The law that tables rest on, for each of the six kinds: over the columns of its phase, the coordinate after a move is a function of the
-- coordinate alone. And phase 2: where co, eo and e_combo are 0, which its ten moves keep; all six are 0 there exactly for the solved cube.
-- Assumes nothing.
use mathlib.Core.Path.{◌≡◌, refl, sym, ap, ap₂, subst, ◌∙◌}
use mathlib.Core.Bool.{Bool, true, ◌&&◌}
use mathlib.Core.Logic.{◌↔◌}
use mathlib.Core.List.{List, [], ◌∷◌, ◌++◌, map, map-append}
use Prim.Native.Nat.{ℕ, zero, suc, ◌+◌, ◌-◌, ◌%◌, ◌≤◌, ◌<◌}
use native.Mathlib.Omega.{arith}
use lib.Dec.{leb, eqb}
use lib.ListN.{length, get_or, take, drop, replicate, length-map, length-take, length-drop, take-append-drop}
use lib.Seq.{get_or-take, get_or-drop, take_all}
use borrow.Author.Tests.{eqb-true, leb-true}
use Rattle.base.specs.Combo.{choose, combo_number, combo_of, mask}
use Rattle.base.specs.Digits.{digits_of}
use Rattle.base.specs.Lists.{all_below, Each, Under, in_range, total}
use Rattle.base.specs.Perm.{less, same, bump, below, number, perm_of, Perm}
use Rattle.base.specs.Product.{compose, twisted}
use Rattle.base.proofs.Combo.{combo-ext}
use Rattle.base.proofs.Digits.{total-append}
use Rattle.base.proofs.Perm.{Fills, less-is, total-map, total_ext, add-mono, number-map, fills-perm, perm-fills, perm_of-number}
use Rattle.base.proofs.Product.{map_at}
use Rattle.base.proofs.Tests.{and-true, below_true, in_range-under}
use Rattle.cubie.specs.Cube.{InRange, product, solved_cube, quarter_turns, power, move_of, turn}
use Rattle.moves.specs.Moves.{all_moves, phase2_moves}
use Rattle.columns.proofs.Columns.{phase1-column, phase2-column}
use Rattle.cubie.specs.Solvable.{corner_twist, solvable}
use Rattle.cubie.specs.declared.CubieCube.{CubieCube}
use Rattle.cubie.proofs.Product.{cube-path}
use Rattle.cubie.proofs.Solvable.{Parts, solvable-parts, turn-solvable}
use Rattle.cubie.proofs.Turns.{move-range, turn-range}
use Rattle.numbering.specs.Coordinates.{co_number, eo_number, e_combo_number, cp_number, ud_ep_number, e_ep_number}
use Rattle.numbering.specs.Coordinates.{co_of, eo_of, e_combo_of, cp_of, ud_ep_of, e_ep_of}
use Rattle.numbering.specs.Kinds.{co, eo, e_combo, cp, ud_ep, e_ep, coordinate, after, InPhase2, Follows}
use Rattle.numbering.proofs.Numbers.{e-places}
use Rattle.numbering.proofs.Survives.{co-survives, eo-survives, e-combo-survives}

-- ---- co, eo and cp: of a solvable cube the arrangement of the number is its own

pub twists-sum : (xs : List ℕ) → Under 3 xs → (total (λ x. (3 - x) % 3) xs + total (λ x. x) xs) % 3 ≡ 0
twists-sum [] u = refl
twists-sum (x ∷ xs) u =
    let h : x < 3 = u.0 in
    let ih = twists-sum xs u.1 in
    let e : ((3 - x) % 3 + x) % 3 ≡ 0 = eqb-true _ _ (below_true (λ x. eqb (((3 - x) % 3 + x) % 3) 0) 3 refl x h) in
    omega arith

module _ (c : CubieCube) (r : InRange c) (s : solvable c ≡ true) where
  parts : Parts c
  parts = solvable-parts r s

  pub co-own : co_of (co_number c.co) ≡ c.co
  co-own =
      let a = twists-sum c.co r.co.small in
      let b : corner_twist c % 3 ≡ 0 = parts.twists in
      co-survives c.co r.co (omega arith)

  pub eo-own : eo_of (eo_number c.eo) ≡ c.eo
  eo-own = eo-survives c.eo r.eo parts.flips

  pub cp-own : cp_of (cp_number c.cp) ≡ c.cp
  cp-own = perm_of-number 8 c.cp parts.corners

  -- exactly four places hold an edge below 4
  pub four_low : below 4 c.ep ≡ 4
  four_low = omega (arith, perm-fills parts.edges 4)

  pub mask-own : mask (e_combo_of (e_combo_number c.ep)) ≡ mask c.ep
  mask-own = e-combo-survives c.ep r.ep.size four_low

  pub co-after : (m : ℕ) → coordinate co (turn c m) ≡ after co (coordinate co c) m
  unfolding product
  co-after m = ap (λ (xs : List ℕ). co_number (twisted 3 xs (move_of m).cp (move_of m).co)) (sym co-own)

  pub eo-after : (m : ℕ) → coordinate eo (turn c m) ≡ after eo (coordinate eo c) m
  unfolding product
  eo-after m = ap (λ (xs : List ℕ). eo_number (twisted 2 xs (move_of m).ep (move_of m).eo)) (sym eo-own)

pub co-follows : Follows co all_moves (λ c. Unit {0})
co-follows c r s d j h = co-after c r s (get_or all_moves j 0)

pub eo-follows : Follows eo all_moves (λ c. Unit {0})
eo-follows c r s d j h = eo-after c r s (get_or all_moves j 0)

pub cp-follows : Follows cp phase2_moves InPhase2
unfolding product
cp-follows c r s d j h =
    let m = move_of (get_or phase2_moves j 0) in
    ap (λ (xs : List ℕ). cp_number (compose xs m.cp)) (sym (cp-own c r s))

-- ---- e_combo: a move takes the mask along

-- two lists that agree at each place that q names
pub compose-ext : {P : ℕ → Type 0} (xs ys : List ℕ) → ((i : ℕ) → P i → get_or xs i 0 ≡ get_or ys i 0) → (q : List ℕ) → Each P q → compose xs q ≡ compose ys q
compose-ext xs ys e [] u = refl
compose-ext xs ys e (i ∷ q) u = ap₂ ◌∷◌ (e i u.0) (compose-ext xs ys e q u.1)

pub mask-compose : (n : ℕ) (xs : List ℕ) → length xs ≡ n → (q : List ℕ) → Under n q → mask (compose xs q) ≡ compose (mask xs) q
mask-compose n xs l [] u = refl
mask-compose n xs l (i ∷ q) u = ap₂ ◌∷◌ (sym (map_at (λ x. less x 4) xs i (omega (arith, u.0)))) (mask-compose n xs l q u.1)

module _ (c : CubieCube) (r : InRange c) (s : solvable c ≡ true) where
  pub e-combo-after : (m : ℕ) → m < 18 → coordinate e_combo (turn c m) ≡ after e_combo (coordinate e_combo c) m
  unfolding product
  e-combo-after m h =
      let q = (move_of m).ep in
      let g = (move-range m h).ep in
      let a = e_combo_of (e_combo_number c.ep) in
      let own : mask a ≡ mask c.ep = mask-own c r s in
      let l : length a ≡ 12 = sym (length-map a (λ x. less x 4)) ∙ ap length own ∙ length-map c.ep (λ x. less x 4) ∙ r.ep.size in
      combo-ext 12 4 (compose c.ep q) (compose a q) (omega (arith, length-map q (λ i. get_or c.ep i 0), g.size))
      (length-map q (λ i. get_or c.ep i 0) ∙ sym (length-map q (λ i. get_or a i 0)))
      (mask-compose 12 c.ep r.ep.size q g.small ∙ ap (λ (m : List ℕ). compose m q) (sym own) ∙ sym (mask-compose 12 a l q g.small))

pub e-combo-follows : Follows e_combo all_moves (λ c. Unit {0})
e-combo-follows c r s d j h = e-combo-after c r s (get_or all_moves j 0) (phase1-column j h)

-- ---- phase 2: the edges of the middle layer are in it, the others outside

-- the places after the fourth hold each of 4 to 11 once
module _ (xs : List ℕ) (p : Perm 12 xs) (m : Under 4 (take 4 xs)) where
  pub front : Perm 4 (take 4 xs)
  front = record { size = simp length-take (omega (arith, p.size)); small = m; once = λ a. omega (arith, p.once a, parted a) }
    where
      parted : (a : ℕ) → total (same a) (take 4 xs) + total (same a) (drop 4 xs) ≡ total (same a) xs
      parted a = sym (total-append (same a) (take 4 xs) (drop 4 xs)) ∙ ap (total (same a)) (take-append-drop 4 xs)

  rest-fills : Fills 4 8 (drop 4 xs)
  rest-fills d =
      let e : below d (take 4 xs) + below d (drop 4 xs) ≡ below d xs = sym (total-append (λ x. less x d) (take 4 xs) (drop 4 xs)) ∙ ap (below d) (take-append-drop 4 xs) in
      omega (arith, e, perm-fills p d, perm-fills front d)

  rest-length : length (drop 4 xs) ≡ 8
  rest-length = simp length-drop (omega (arith, p.size))

  pub lowered : List ℕ
  lowered = map (λ y. y - 4) (drop 4 xs)

  pub lowered-back : map (λ x. 4 + x) lowered ≡ drop 4 xs
  unfolding lowered
  lowered-back = go (drop 4 xs) (omega (arith, rest-fills 4))
    where
      go : (ys : List ℕ) → below 4 ys ≡ 0 → map (λ x. 4 + x) (map (λ y. y - 4) ys) ≡ ys
      go [] z = refl
      go (y ∷ ys) z = ap₂ ◌∷◌ (omega (arith, less-is y 4)) (go ys (omega (arith, less-is y 4)))

  pub lowered-perm : Perm 8 lowered
  lowered-perm = fills-perm (sym (length-map lowered (λ x. 4 + x)) ∙ ap length lowered-back ∙ rest-length) fills
    where
      fills : Fills 0 8 lowered
      fills d =
          let e : below (4 + d) (map (λ x. 4 + x) lowered) ≡ below d lowered =
          total-map (λ x. less x (4 + d)) (λ x. 4 + x) lowered ∙ total_ext (λ x. add-mono 4 x d) lowered in
          omega (arith, e, ap (below (4 + d)) lowered-back, rest-fills (4 + d))

-- so the arrangement of the number of the eight places has them, and that of the four has those
pub eight-own : (xs zs : List ℕ) → Perm 8 zs → drop 4 xs ≡ map (λ x. 4 + x) zs → drop 4 (ud_ep_of (ud_ep_number xs)) ≡ drop 4 xs
eight-own xs zs p e =
    let l : length (map (λ x. 4 + x) zs) ≡ 8 = length-map zs (λ x. 4 + x) ∙ p.size in
    let n : ud_ep_number xs ≡ number zs =
    ap (λ (l : List ℕ). number (take 8 l)) e ∙ ap number (take_all 8 (map (λ x. 4 + x) zs) (omega arith)) ∙ number-map (λ x. 4 + x) (add-mono 4) zs in
    ap (λ (v : ℕ). map (λ x. 4 + x) (perm_of 8 v)) n ∙ ap (map (λ x. 4 + x)) (perm_of-number 8 zs p) ∙ sym e

pub four-own : (xs : List ℕ) → Perm 4 (take 4 xs) → take 4 (e_ep_of (e_ep_number xs)) ≡ take 4 xs
four-own xs p = e-places (e_ep_number xs) ∙ perm_of-number 4 (take 4 xs) p

-- the ten moves keep the middle layer's four places apart from the other eight
outside : List ℕ → Bool
outside [] = true
outside (x ∷ xs) = leb 4 x && outside xs

outside-each : (xs : List ℕ) → outside xs ≡ true → Each (λ x. 4 ≤ x) xs
unfolding outside
outside-each [] e = tt
outside-each (x ∷ xs) e = let p = and-true (leb 4 x) (outside xs) e in (leb-true 4 x p.0, outside-each xs p.1)

apart : ℕ → Bool
apart j = in_range 4 (take 4 (move_of (get_or phase2_moves j 0)).ep) && outside (drop 4 (move_of (get_or phase2_moves j 0)).ep)

all_apart : all_below apart 10 ≡ true
unfolding apart outside move_of power product twisted quarter_turns solved_cube
all_apart = refl

module _ (j : ℕ) (h : j < 10) where
  pub stays-inside : Under 4 (take 4 (move_of (get_or phase2_moves j 0)).ep)
  unfolding apart
  stays-inside = in_range-under 4 (take 4 (move_of (get_or phase2_moves j 0)).ep) (and-true (in_range 4 (take 4 (move_of (get_or phase2_moves j 0)).ep)) _ (below_true apart 10 all_apart j h)).0

  pub stays-outside : Each (λ x. 4 ≤ x) (drop 4 (move_of (get_or phase2_moves j 0)).ep)
  unfolding apart
  stays-outside = outside-each (drop 4 (move_of (get_or phase2_moves j 0)).ep) (and-true (in_range 4 (take 4 (move_of (get_or phase2_moves j 0)).ep)) _ (below_true apart 10 all_apart j h)).1

pub map-drop : (f : ℕ → ℕ) (n : ℕ) (q : List ℕ) → drop n (map f q) ≡ map f (drop n q)
map-drop f zero q = refl
map-drop f (suc n) [] = refl
map-drop f (suc n) (x ∷ q) = map-drop f n q

pub map-take : (f : ℕ → ℕ) (n : ℕ) (q : List ℕ) → take n (map f q) ≡ map f (take n q)
map-take f zero q = refl
map-take f (suc n) [] = refl
map-take f (suc n) (x ∷ q) = ap (◌∷◌ (f x)) (map-take f n q)

pub drop-at-place : (xs : List ℕ) (i : ℕ) → 4 ≤ i → get_or xs i 0 ≡ get_or (drop 4 xs) (i - 4) 0
drop-at-place xs i h = let e : 4 + (i - 4) ≡ i = omega arith in sym (get_or-drop 4 xs (i - 4) 0 ∙ ap (λ (k : ℕ). get_or xs k 0) e)

-- ud_ep and e_ep after one of them
module _ (c : CubieCube) (j : ℕ) (h : j < 10) where
  pub ud-after : drop 4 (ud_ep_of (coordinate ud_ep c)) ≡ drop 4 c.ep → coordinate ud_ep (turn c (get_or phase2_moves j 0)) ≡ after ud_ep (coordinate ud_ep c) (get_or phase2_moves j 0)
  unfolding product
  ud-after own =
      let q = (move_of (get_or phase2_moves j 0)).ep in
      let xs = c.ep in
      let ws = ud_ep_of (ud_ep_number xs) in
      ap (λ (l : List ℕ). number (take 8 l))
      (map-drop (λ i. get_or xs i 0) 4 q
      ∙ compose-ext xs ws (λ i k. drop-at-place xs i k ∙ ap (λ (l : List ℕ). get_or l (i - 4) 0) (sym own) ∙ sym (drop-at-place ws i k)) (drop 4 q) (stays-outside j h)
      ∙ sym (map-drop (λ i. get_or ws i 0) 4 q))

  pub e-after : take 4 (e_ep_of (coordinate e_ep c)) ≡ take 4 c.ep → coordinate e_ep (turn c (get_or phase2_moves j 0)) ≡ after e_ep (coordinate e_ep c) (get_or phase2_moves j 0)
  unfolding product
  e-after own =
      let q = (move_of (get_or phase2_moves j 0)).ep in
      let xs = c.ep in
      let ws = e_ep_of (e_ep_number xs) in
      ap number
      (map-take (λ i. get_or xs i 0) 4 q
      ∙ compose-ext xs ws (λ i k. sym (get_or-take 4 xs i 0 k) ∙ ap (λ (l : List ℕ). get_or l i 0) (sym own) ∙ get_or-take 4 ws i 0 k) (take 4 q) (stays-inside j h)
      ∙ sym (map-take (λ i. get_or ws i 0) 4 q))

module _ (c : CubieCube) (r : InRange c) (s : solvable c ≡ true) (m : Under 4 (take 4 c.ep)) where
  pub ud-own : drop 4 (ud_ep_of (ud_ep_number c.ep)) ≡ drop 4 c.ep
  ud-own =
      let p = (parts c r s).edges in
      eight-own c.ep (lowered c.ep p m) (lowered-perm c.ep p m) (sym (lowered-back c.ep p m))

  pub e-own : take 4 (e_ep_of (e_ep_number c.ep)) ≡ take 4 c.ep
  e-own = four-own c.ep (front c.ep (parts c r s).edges m)

pub ud-ep-follows : Follows ud_ep phase2_moves InPhase2
ud-ep-follows c r s d j h = ud-after c j h (ud-own c r s d.middle)

pub e-ep-follows : Follows e_ep phase2_moves InPhase2
e-ep-follows c r s d j h = e-after c j h (e-own c r s d.middle)

-- ---- co, eo and e_combo are 0 exactly in phase 2's domain

-- the pieces below 4 are the first k
low-front : (k : ℕ) (xs ms : List ℕ) → mask xs ≡ replicate k 1 ++ ms → Under 4 (take k xs)
low-front zero xs ms e = tt
low-front (suc k) [] ms e = tt
low-front (suc k) (x ∷ xs) ms e =
    (omega (arith, less-is x 4, ap (λ (l : List ℕ). get_or l 0 0) e), low-front k xs ms (ap (λ (l : List ℕ). drop 1 l) e))

mask_low : (ys : List ℕ) → Under 4 ys → mask ys ≡ replicate (length ys) 1
mask_low [] u = refl
mask_low (y ∷ ys) u = ap₂ ◌∷◌ (omega (arith, less-is y 4, u.0)) (mask_low ys u.1)

mask-high : (ys : List ℕ) → below 4 ys ≡ 0 → mask ys ≡ replicate (length ys) 0
mask-high [] z = refl
mask-high (y ∷ ys) z = ap₂ ◌∷◌ (omega arith) (mask-high ys (omega arith))

module _ (c : CubieCube) (r : InRange c) (s : solvable c ≡ true) where
  pub zero-phase2 : coordinate co c ≡ 0 → coordinate eo c ≡ 0 → coordinate e_combo c ≡ 0 → InPhase2 c
  unfolding digits_of combo_of choose less
  zero-phase2 a b e =
      record {
        twists = sym (co-own c r s) ∙ ap co_of a;
        flips = sym (eo-own c r s) ∙ ap eo_of b;
        middle = low-front 4 c.ep (replicate 8 0) (sym (mask-own c r s) ∙ ap (λ (n : ℕ). mask (e_combo_of n)) e);
      }

  middle-zero : Under 4 (take 4 c.ep) → coordinate e_combo c ≡ 0
  unfolding combo_number choose less
  middle-zero m =
      let xs = c.ep in
      let p = (parts c r s).edges in
      let high : below 4 (drop 4 xs) ≡ 0 = omega (arith, rest-fills xs p m 4) in
      let front4 : length (take 4 xs) ≡ 4 = simp length-take (omega (arith, p.size)) in
      let e : mask xs ≡ replicate 4 1 ++ replicate 8 0 =
      ap mask (sym (take-append-drop 4 xs)) ∙ map-append (λ x. less x 4) (take 4 xs) (drop 4 xs)
      ∙ ap₂ ◌++◌ (mask_low (take 4 xs) m ∙ ap (λ (n : ℕ). replicate n 1) front4) (mask-high (drop 4 xs) high ∙ ap (λ (n : ℕ). replicate n 0) (rest-length xs p m)) in
      combo-ext 12 4 xs (replicate 4 0 ++ replicate 8 4) (omega (arith, p.size)) p.size e

  pub phase2-zero : InPhase2 c → (coordinate co c ≡ 0) × (coordinate eo c ≡ 0) × (coordinate e_combo c ≡ 0)
  phase2-zero d = (ap co_number d.twists, ap eo_number d.flips, middle-zero d.middle)

  pub phase2-exactly : ((coordinate co c ≡ 0) × (coordinate eo c ≡ 0) × (coordinate e_combo c ≡ 0)) ↔ InPhase2 c
  phase2-exactly = (λ z. zero-phase2 z.0 z.1 z.2, phase2-zero)

-- the ten moves keep it
kept : ℕ → Bool
kept m = eqb (after co 0 m) 0 && (eqb (after eo 0 m) 0 && eqb (after e_combo 0 m) 0)

all-kept : all_below (λ j. kept (get_or phase2_moves j 0)) 10 ≡ true
unfolding kept move_of power product twisted quarter_turns solved_cube digits_of combo_of combo_number choose less
all-kept = refl

pub phase2-keeps : (c : CubieCube) → InRange c → solvable c ≡ true → InPhase2 c → (j : ℕ) → j < 10 → InPhase2 (turn c (get_or phase2_moves j 0))
unfolding kept
phase2-keeps c r s d j h =
    let m = get_or phase2_moves j 0 in
    let k = phase2-column j h in
    let z = phase2-zero c r s d in
    let t = below_true (λ j. kept (get_or phase2_moves j 0)) 10 all-kept j h in
    let u = and-true (eqb (after co 0 m) 0) _ t in
    let v = and-true (eqb (after eo 0 m) 0) _ u.1 in
    zero-phase2 (turn c m) (turn-range r m k) (turn-solvable r s m k)
    (co-after c r s m ∙ ap (λ (n : ℕ). after co n m) z.0 ∙ eqb-true _ _ u.0)
    (eo-after c r s m ∙ ap (λ (n : ℕ). after eo n m) z.1 ∙ eqb-true _ _ v.0)
    (e-combo-after c r s m k ∙ ap (λ (n : ℕ). after e_combo n m) z.2 ∙ eqb-true _ _ v.1)

-- ---- all six are 0 exactly for the solved cube

zero-solved : (c : CubieCube) → InRange c → solvable c ≡ true → InPhase2 c
    → coordinate cp c ≡ 0 → coordinate ud_ep c ≡ 0 → coordinate e_ep c ≡ 0 → c ≡ solved_cube
unfolding perm_of bump solved_cube
zero-solved c r s d a b e =
    cube-path (sym (cp-own c r s) ∙ ap cp_of a) d.twists
    (sym (take-append-drop 4 c.ep)
    ∙ ap₂ ◌++◌ (sym (e-own c r s d.middle) ∙ ap (λ (n : ℕ). take 4 (e_ep_of n)) e) (sym (ud-own c r s d.middle) ∙ ap (λ (n : ℕ). drop 4 (ud_ep_of n)) b))
    d.flips

abbrev pub AllZero : CubieCube → Type 0
AllZero c =
    (coordinate co c ≡ 0) × (coordinate eo c ≡ 0) × (coordinate e_combo c ≡ 0)
    × (coordinate cp c ≡ 0) × (coordinate ud_ep c ≡ 0) × (coordinate e_ep c ≡ 0)

solved-zero : AllZero solved_cube
unfolding solved_cube combo_number choose less
solved-zero = (refl, refl, refl, refl, refl, refl)

pub solved-exactly : (c : CubieCube) → InRange c → solvable c ≡ true → AllZero c ↔ (c ≡ solved_cube)
solved-exactly c r s =
    (λ z. zero-solved c r s (zero-phase2 c r s z.0 z.1 z.2) z.3 z.4 z.5, λ e. subst AllZero (sym e) solved-zero)
