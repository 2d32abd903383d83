-- The coordinate of an arrangement after a move, for each of the six: which lists of the move it is made from; and that the edges keep four below 4.
-- Assumes nothing.
use mathlib.Core.Path.{◌≡◌, refl, sym, ap, subst, ◌∙◌}
use mathlib.Core.List.{List}
use Prim.Native.Nat.{ℕ, ◌≤◌, ◌<◌}
use lib.Dec.{eqb}
use lib.ListN.{length, get_or}
use native.Mathlib.Omega.{arith}
use Rattle.std.proofs.lemmas.List.FromFn.{get_or-map-range_with_len}
use Rattle.base.proofs.Product.{twisted-sized}
use borrow.Author.Tests.{eqb-true}
use Rattle.base.specs.Lists.{in_range, Under}
use Rattle.base.specs.Perm.{less, below, Perm}
use Rattle.base.specs.Product.{compose, twisted}
use Rattle.base.proofs.Parity.{total-places}
use Rattle.base.proofs.Perm.{total-map}
use Rattle.base.proofs.Tests.{in_range-under}
use Rattle.cubie.specs.Cube.{product, move_of}
use Rattle.cubie.specs.declared.CubieCube.{CubieCube}
use Rattle.cubie.proofs.Product.{solved-product}
use Rattle.cubie.proofs.Solvable.{solvable-parts, solved-solvable, turn-solvable}
use Rattle.cubie.proofs.Turns.{move-range, solved-range, turn-range}
use Rattle.numbering.specs.Coordinates.{co_number, eo_number, e_combo_number, cp_number, ud_ep_number, e_ep_number}
use Rattle.numbering.specs.Kinds.{co, eo, e_combo, cp, ud_ep, e_ep}
use Rattle.numbering.proofs.Numbers.{one-test, two-tests}
use Rattle.move_row.specs.Tables.{Domain, moved, move_cubes}

-- what a domain says
pub co-under : {xs : List ℕ} → Domain co xs → Under 3 xs
co-under {xs} d = in_range-under 3 xs (one-test (in_range 3 xs) d.fits)

pub eo-under : {xs : List ℕ} → Domain eo xs → Under 2 xs
eo-under {xs} d = in_range-under 2 xs (one-test (in_range 2 xs) d.fits)

-- the edges of a move are a permutation
move-edges : (m : ℕ) → m < 18 → Perm 12 (move_of m).ep
move-edges m h =
    let p = solvable-parts (turn-range solved-range m h) (turn-solvable solved-range solved-solvable m h) in
    subst (λ (c : CubieCube). Perm 12 c.ep) (solved-product (move-range m h)) p.edges

module _ (xs : List ℕ) (m : ℕ) where
  pub moved-co : moved co xs m ≡ co_number (twisted 3 xs (move_of m).cp (move_of m).co)
  unfolding product
  moved-co = refl

  pub moved-eo : moved eo xs m ≡ eo_number (twisted 2 xs (move_of m).ep (move_of m).eo)
  unfolding product
  moved-eo = refl

  pub moved-combo : moved e_combo xs m ≡ e_combo_number (compose xs (move_of m).ep)
  unfolding product
  moved-combo = refl

  pub moved-cp : moved cp xs m ≡ cp_number (compose xs (move_of m).cp)
  unfolding product
  moved-cp = refl

  pub moved-ud : moved ud_ep xs m ≡ ud_ep_number (compose xs (move_of m).ep)
  unfolding product
  moved-ud = refl

  pub moved-e : moved e_ep xs m ≡ e_ep_number (compose xs (move_of m).ep)
  unfolding product
  moved-e = refl

  module _ (h : m < 18) where
    -- the edges below 4 are as many as before
    pub four_below : Domain e_combo xs → below 4 (compose xs (move_of m).ep) ≡ 4
    four_below d =
        total-map (λ x. less x 4) (λ i. get_or xs i 0) (move_of m).ep
        ∙ total-places (λ x. less x 4) xs (move-edges m h) d.places
        ∙ eqb-true (below 4 xs) 4 (two-tests (in_range 12 xs) (eqb (below 4 xs) 4) 4 d.fits).1

-- the cube of a move among those of all
pub cube-at : (cubes : List CubieCube) → cubes ≡ move_cubes → (m : ℕ) → m < 18 → (d : CubieCube) → get_or cubes m d ≡ move_of m
unfolding move_cubes
cube-at cubes e m h d = ap (λ (l : List CubieCube). get_or l m d) e ∙ get_or-map-range_with_len move_of 0 18 m m d h (omega arith)

-- what `twist` and `permute` ask for at the cube of a move, and what the coordinate of their answer is
module _ {c : CubieCube} {m : ℕ} (e : c ≡ move_of m) (h : m < 18) (xs : List ℕ) where
  pub co-fits : Domain co xs → Under (length xs) c.cp × (Under 3 xs × Under 3 c.co × (0 < 3) × (3 ≤ 3))
  co-fits d = rw (e, d.places) ((move-range m h).cp.small, (co-under d, (move-range m h).co.small, omega arith, omega arith))

  pub eo-fits : Domain eo xs → Under (length xs) c.ep × (Under 2 xs × Under 2 c.eo × (0 < 2) × (2 ≤ 3))
  eo-fits d = rw (e, d.places) ((move-range m h).ep.small, (eo-under d, (move-range m h).eo.small, omega arith, omega arith))

  pub corners-fit : length xs ≡ 8 → Under (length xs) c.cp
  corners-fit l = rw (e, l) (move-range m h).cp.small

  pub edges_fit : length xs ≡ 12 → Under (length xs) c.ep
  edges_fit l = rw (e, l) (move-range m h).ep.small

  pub co-after : {out : List ℕ} → out ≡ twisted 3 xs c.cp c.co → Under 3 out × (co_number out ≡ moved co xs m)
  co-after o = rw (o, e) ((twisted-sized xs (omega arith) (move-range m h).cp (move-range m h).co).small, sym (moved-co xs m))

  pub eo-after : {out : List ℕ} → out ≡ twisted 2 xs c.ep c.eo → Under 2 out × (eo_number out ≡ moved eo xs m)
  eo-after o = rw (o, e) ((twisted-sized xs (omega arith) (move-range m h).ep (move-range m h).eo).small, sym (moved-eo xs m))

  pub combo-after : Domain e_combo xs → {out : List ℕ} → out ≡ compose xs c.ep → (below 4 out ≡ 4) × (e_combo_number out ≡ moved e_combo xs m)
  combo-after d o = rw (o, e) (four_below xs m h d, sym (moved-combo xs m))

  pub cp-after : {out : List ℕ} → out ≡ compose xs c.cp → cp_number out ≡ moved cp xs m
  cp-after o = rw (o, e) (sym (moved-cp xs m))

  pub ud-after : {out : List ℕ} → out ≡ compose xs c.ep → ud_ep_number out ≡ moved ud_ep xs m
  ud-after o = rw (o, e) (sym (moved-ud xs m))

  pub e-after : {out : List ℕ} → out ≡ compose xs c.ep → e_ep_number out ≡ moved e_ep xs m
  e-after o = rw (o, e) (sym (moved-e xs m))
