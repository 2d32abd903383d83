-- `reading::inner::read_corners` meets its contract. Assumes nothing.
use mathlib.Core.Path.{◌≡◌, refl, sym, ap, ◌∙◌}
use mathlib.Core.Bool.{true, false}
use mathlib.Core.List.{map}
use Prim.Native.Nat.{ℕ, ◌<◌}
use native.Mathlib.Omega.{arith}
use borrow.Author.Tests.{lt-ltb}
use lib.ListN.{length-set}
use Rattle.std.proofs.Common.{Option, Some, None, MatchOption}
use Rattle.base.specs.Lists.{range}
use Rattle.base.proofs.Product.{map-range-at, map-range-length}
use Rattle.base.proofs.Steps.{written-more, written_all}
use Rattle.stickers.specs.Reader.{corner_fits, first_from, corner_read, twist_read}
use Rattle.stickers.proofs.First.{first_found, first_next, first-none}
use Rattle.stickers.proofs.Found.{corner-placed}
use Rattle.reading.proofs.inner.read_corners.Goals.{then-j-eq8, else-j-eq8+then-corner_fits, in-Some, in-None}
use Rattle.reading.proofs.inner.read_corners.Goals as goal

pub pieces-preserved : goal.pieces-preserved
pieces-preserved c = (omega arith, first_next _ 8 c.pieces.j (omega arith) (sym c.corner_fits.ensures ∙ c.if-corner_fits.false) ∙ c.pieces.invariant.1)

-- the inner loop yields the first piece that fits
yielded : (c : goal.Joined-piece) (r : Option ℕ) → c.if-j-eq8.piece ≡ r
    → MatchOption r (8 ≡ first_from (corner_fits c.at_corner-a.result c.at_corner-b.result) 0 8) (λ j. (j < 8) × (j ≡ first_from (corner_fits c.at_corner-a.result c.at_corner-b.result) 0 8))
yielded c r e =
    let fits = corner_fits c.at_corner-a.result c.at_corner-b.result in
    let l = c.pieces in
    elim c.if-j-eq8.branch [
      | then-j-eq8 w ↦ rw (← e, w.piece-is) (sym w.if-j-eq8.true ∙ sym (first-none fits 8 l.j (omega (arith, w.if-j-eq8.true))) ∙ l.invariant.1)
      | else-j-eq8+then-corner_fits w ↦
          let h : l.j < 8 = omega (arith, w.if-j-eq8.false, l.invariant.0) in
          rw (← e, w.piece-is) (h, sym (first_found fits 8 l.j h (sym w.corner_fits.ensures ∙ w.if-corner_fits.true)) ∙ l.invariant.1)
    ]

-- that piece and its twist go to the place
placed : (c : goal.Joined-piece) → c.match-piece.cp ≡ (corner_read c.args.s.now c.places.i, twist_read c.args.s.now c.places.i)
placed c =
    let at = λ (j : ℕ). corner-placed c.args.s.now c.places.i _ _ _ _ _ j c.at_corner.ensures c.at_corner-in-places.ensures c.twist_seen-twist.ensures c.at_corner-a.ensures c.at_corner-b.ensures in
    elim c.match-piece.branch [
      | in-Some w ↦ let f = yielded c (Some w.in-Some.j) w.in-Some.is in w.cp-is ∙ at w.in-Some.j f.1 true (lt-ltb w.in-Some.j 8 f.0)
      | in-None w ↦ w.cp-is ∙ at 8 (yielded c None w.in-None.is) false refl
    ]

pub places-preserved : goal.places-preserved
places-preserved c =
    let s = c.args.s.now in
    let l = c.places in
    let h = c.places-test.true in
    let p = placed c in (
      length-set l.cp l.i _ ∙ l.invariant.0,
      length-set l.co l.i _ ∙ l.invariant.1,
      written-more l.cp (map (corner_read s) (range 0 8)) l.i (map-range-length (corner_read s) 8 ∙ sym l.invariant.0) l.invariant.2 _ (omega arith)
          (ap (λ (q : ℕ × ℕ). q.0) p ∙ sym (map-range-at (corner_read s) 8 l.i h)),
      written-more l.co (map (twist_read s) (range 0 8)) l.i (map-range-length (twist_read s) 8 ∙ sym l.invariant.1) l.invariant.3 _ (omega arith)
          (ap (λ (q : ℕ × ℕ). q.1) p ∙ sym (map-range-at (twist_read s) 8 l.i h)),
    )

pub returns-clause-corners : goal.returns-clause-corners
returns-clause-corners c =
    let f = corner_read c.args.s.now in
    let l = c.places in
    written_all l.cp (map f (range 0 8)) l.i (map-range-length f 8 ∙ sym l.invariant.0) l.invariant.2 (omega arith)

pub returns-clause-twists : goal.returns-clause-twists
returns-clause-twists c =
    let f = twist_read c.args.s.now in
    let l = c.places in
    written_all l.co (map f (range 0 8)) l.i (map-range-length f 8 ∙ sym l.invariant.1) l.invariant.3 (omega arith)
