-- The 18 moves: each is its quarter turn taken one, two or three times, four quarter turns are none, and the inverse move undoes.
-- The constants are tested by computing; the rest is the product's laws. Assumes nothing.
use mathlib.Core.Path.{◌≡◌, refl, sym, ap, ap₂, ◌∙◌}
use mathlib.Core.Bool.{Bool, true, ◌&&◌}
use mathlib.Core.List.{List, [], ◌∷◌}
use Prim.Native.Nat.{ℕ, zero, suc, ◌+◌, ◌*◌, ◌/◌, ◌%◌, ◌<◌}
use native.Mathlib.Numerals.{add-one}
use native.Mathlib.Omega.{arith}
use lib.Dec.{eqb, ltb}
use lib.ListN.{length, get_or}
use borrow.Author.Tests.{eqb-true, ltb-true}
use Rattle.std.specs.Cmp.Lexicographic.{pointwise}
use Rattle.base.specs.Lists.{all_below, Under, same_list, times}
use Rattle.base.specs.Product.{twisted}
use Rattle.base.proofs.Tests.{and-true, below_true, same_list-is, eq_same_list}
use Rattle.cubie.specs.Cube.{refusal_of, InRange, product, solved_cube, quarter_turns, power, move_of, turn, apply_moves, same_cube}
use Rattle.moves.specs.Moves.{inverse_move}
use Rattle.cubie.specs.declared.CubieCube.{CubieCube}
use Rattle.cubie.proofs.Product.{cube-path, product-range, product-assoc, product-solved, solved-product}
use Rattle.cubie.proofs.Range.{in-range}

pub same-is : (a b : CubieCube) → same_cube a b ≡ true → a ≡ b
unfolding same_cube
same-is a b e =
    let p = and-true (same_list a.cp b.cp) _ e in
    let q = and-true (same_list a.co b.co) _ p.1 in
    let r = and-true (same_list a.ep b.ep) _ q.1 in
    cube-path (same_list-is _ _ p.0) (same_list-is _ _ q.0) (same_list-is _ _ r.0) (same_list-is _ _ r.1)

-- what `==` answers of two cubes
pub eq_same_cube : (a b : CubieCube)
    → (pointwise eqb a.cp b.cp && (pointwise eqb a.co b.co && (pointwise eqb a.ep b.ep && pointwise eqb a.eo b.eo))) ≡ same_cube a b
unfolding same_cube
eq_same_cube a b =
    ap₂ ◌&&◌ (eq_same_list a.cp b.cp) (ap₂ ◌&&◌ (eq_same_list a.co b.co) (ap₂ ◌&&◌ (eq_same_list a.ep b.ep) (eq_same_list a.eo b.eo)))

-- ---- the constants, by computed tests

ranged : CubieCube → Bool
ranged c = eqb (refusal_of c) 0 && (eqb (length c.cp) 8 && (eqb (length c.co) 8 && (eqb (length c.ep) 12 && eqb (length c.eo) 12)))

ranged-is : (c : CubieCube) → ranged c ≡ true → InRange c
unfolding ranged
ranged-is c e =
    let n = and-true (eqb (refusal_of c) 0) _ e in
    let p = and-true (eqb (length c.cp) 8) _ n.1 in
    let q = and-true (eqb (length c.co) 8) _ p.1 in
    let r = and-true (eqb (length c.ep) 12) _ q.1 in
    in-range c (eqb-true _ _ n.0) (eqb-true _ _ p.0) (eqb-true _ _ q.0) (eqb-true _ _ r.0) (eqb-true _ _ r.1)

-- of each layer: its quarter turn is in range, and four of it are none
layer-fine : ℕ → Bool
layer-fine f = ranged (get_or quarter_turns f solved_cube) && same_cube (power 3 (get_or quarter_turns f solved_cube)) solved_cube

layers-fine : all_below layer-fine 6 ≡ true
unfolding layer-fine ranged refusal_of same_cube same_list power product twisted quarter_turns solved_cube
layers-fine = refl

-- of each move: its inverse is a move, and undoes it
move-fine : ℕ → Bool
move-fine m = ltb (inverse_move m) 18 && same_cube (product (move_of m) (move_of (inverse_move m))) solved_cube

moves-fine : all_below move-fine 18 ≡ true
unfolding move-fine inverse_move move_of same_cube same_list power product twisted quarter_turns solved_cube
moves-fine = refl

layer-is : (f : ℕ) → f < 6 → InRange (get_or quarter_turns f solved_cube) × (power 3 (get_or quarter_turns f solved_cube) ≡ solved_cube)
unfolding layer-fine
layer-is f h =
    let a = and-true (ranged (get_or quarter_turns f solved_cube)) _ (below_true layer-fine 6 layers-fine f h) in
    (ranged-is _ a.0, same-is _ _ a.1)

move-is : (m : ℕ) → m < 18 → (inverse_move m < 18) × (product (move_of m) (move_of (inverse_move m)) ≡ solved_cube)
unfolding move-fine
move-is m h =
    let a = and-true (ltb (inverse_move m) 18) _ (below_true move-fine 18 moves-fine m h) in
    (ltb-true _ _ a.0, same-is _ _ a.1)

-- ---- the range

pub solved-range : InRange solved_cube
unfolding ranged refusal_of solved_cube
solved-range = ranged-is solved_cube refl

pub quarter-range : (f : ℕ) → f < 6 → InRange (get_or quarter_turns f solved_cube)
quarter-range f h = (layer-is f h).0

power-range : (n : ℕ) {t : CubieCube} → InRange t → InRange (power n t)
unfolding power
power-range zero r = r
power-range (suc n) r = product-range (power-range n r) r

pub move-range : (m : ℕ) → m < 18 → InRange (move_of m)
unfolding move_of
move-range m h = power-range (m % 3) (quarter-range (m / 3) (omega arith))

-- a move keeps the range, and so does a list of moves
pub turn-range : {c : CubieCube} → InRange c → (m : ℕ) → m < 18 → InRange (turn c m)
turn-range r m h = product-range r (move-range m h)

pub moves-range : {c : CubieCube} → InRange c → (l : List ℕ) → Under 18 l → InRange (apply_moves c l)
unfolding apply_moves
moves-range r [] u = r
moves-range {c = c} r (m ∷ l) u = moves-range {c = turn c m} (turn-range r m u.0) l u.1

-- ---- a move is its quarter turn taken one, two or three times

times_power : (n : ℕ) (c t : CubieCube) → InRange t → times (suc n) (λ d. product d t) c ≡ product c (power n t)
unfolding power
times_power zero c t r = refl
times_power (suc n) c t r = ap (λ (d : CubieCube). product d t) (times_power n c t r) ∙ product-assoc c (power-range n r) r

quarter-is : (f : ℕ) → move_of (f * 3) ≡ get_or quarter_turns f solved_cube
unfolding move_of power
quarter-is f =
    let z : f * 3 % 3 ≡ 0 = omega arith in
    let d : f * 3 / 3 ≡ f = omega arith in
    ap₂ (λ (n k : ℕ). power n (get_or quarter_turns k solved_cube)) z d

pub turn-quarters : (c : CubieCube) (m : ℕ) → m < 18 → turn c m ≡ times (m % 3 + 1) (λ d. turn d (m / 3 * 3)) c
unfolding move_of
turn-quarters c m h =
    let t = get_or quarter_turns (m / 3) solved_cube in
    sym (times_power (m % 3) c t (quarter-range (m / 3) (omega arith)))
    ∙ ap₂ (λ (n : ℕ) (q : CubieCube). times n (λ d. product d q) c) (sym (add-one (m % 3))) (sym (quarter-is (m / 3)))

-- four quarter turns are none
pub four_quarters : {c : CubieCube} → InRange c → (f : ℕ) → f < 6 → times 4 (λ d. turn d (f * 3)) c ≡ c
four_quarters {c} r f h =
    let t = get_or quarter_turns f solved_cube in
    ap (λ (q : CubieCube). times 4 (λ d. product d q) c) (quarter-is f)
    ∙ times_power 3 c t (quarter-range f h)
    ∙ ap (product c) (layer-is f h).1
    ∙ product-solved r

-- ---- the inverse move undoes

pub inverse-move : (m : ℕ) → m < 18 → inverse_move m < 18
inverse-move m h = (move-is m h).0

pub inverse-undoes : {c : CubieCube} → InRange c → (m : ℕ) → m < 18 → turn (turn c m) (inverse_move m) ≡ c
inverse-undoes {c} r m h =
    product-assoc c (move-range m h) (move-range (inverse_move m) (inverse-move m h)) ∙ ap (product c) (move-is m h).1 ∙ product-solved r

-- ---- a list of moves is the product of its moves

pub moves-product : {c : CubieCube} → InRange c → (l : List ℕ) → Under 18 l → apply_moves c l ≡ product c (apply_moves solved_cube l)
unfolding apply_moves
moves-product r [] u = sym (product-solved r)
moves-product {c = c} r (m ∷ l) u =
    let g = move-range m u.0 in
    let rest = apply_moves solved_cube l in
    moves-product {c = turn c m} (product-range r g) l u.1
    ∙ product-assoc c g (moves-range solved-range l u.1)
    ∙ ap (product c) (sym (moves-product {c = turn solved_cube m} (product-range solved-range g) l u.1 ∙ ap (λ (d : CubieCube). product d rest) (solved-product g)))
