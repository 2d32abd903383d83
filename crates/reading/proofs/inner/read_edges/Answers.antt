-- `reading::inner::read_edges` meets its contract. Assumes nothing.
use mathlib.Core.Path.{◌≡◌, refl, sym, ap, ◌∙◌}
use mathlib.Core.Bool.{true, false}
use mathlib.Core.List.{map}
use Prim.Native.Nat.{ℕ, ◌<◌}
use native.Mathlib.Omega.{arith}
use borrow.Author.Tests.{lt-ltb}
use lib.ListN.{length-set}
use Rattle.std.proofs.Common.{Option, Some, None, MatchOption}
use Rattle.base.specs.Lists.{range}
use Rattle.base.proofs.Product.{map-range-at, map-range-length}
use Rattle.base.proofs.Steps.{written-more, written_all}
use Rattle.stickers.specs.Reader.{edge_fits, first_from, edge_read, flip_read}
use Rattle.stickers.proofs.First.{first_found, first_next, first-none}
use Rattle.stickers.proofs.Found.{edge-placed}
use Rattle.reading.proofs.inner.read_edges.Goals.{then-k-eq24, else-k-eq24+then-edge_fits, in-Some, in-None}
use Rattle.reading.proofs.inner.read_edges.Goals as goal

pub ways-preserved : goal.ways-preserved
ways-preserved c = (omega arith, first_next _ 24 c.ways.k (omega arith) (sym c.edge_fits.ensures ∙ c.if-edge_fits.false) ∙ c.ways.invariant.1)

-- the inner loop yields the first way that fits
yielded : (c : goal.Joined-way) (r : Option ℕ) → c.if-k-eq24.way' ≡ r
    → MatchOption r (24 ≡ first_from (edge_fits c.at_edge-a.result c.at_edge-b.result) 0 24) (λ k. (k < 24) × (k ≡ first_from (edge_fits c.at_edge-a.result c.at_edge-b.result) 0 24))
yielded c r e =
    let fits = edge_fits c.at_edge-a.result c.at_edge-b.result in
    let l = c.ways in
    elim c.if-k-eq24.branch [
      | then-k-eq24 w ↦ rw (← e, w.way'-is) (sym w.if-k-eq24.true ∙ sym (first-none fits 24 l.k (omega (arith, w.if-k-eq24.true))) ∙ l.invariant.1)
      | else-k-eq24+then-edge_fits w ↦
          let h : l.k < 24 = omega (arith, w.if-k-eq24.false, l.invariant.0) in
          rw (← e, w.way'-is) (h, sym (first_found fits 24 l.k h (sym w.edge_fits.ensures ∙ w.if-edge_fits.true)) ∙ l.invariant.1)
    ]

-- that way gives the edge and the flip that go to the place
placed : (c : goal.Joined-way) → c.match-way.ep ≡ (edge_read c.args.s.now c.places.i, flip_read c.args.s.now c.places.i)
placed c =
    let at = λ (k : ℕ). edge-placed c.args.s.now c.places.i _ _ k c.at_edge-a.ensures c.at_edge-b.ensures in
    elim c.match-way.branch [
      | in-Some w ↦ let f = yielded c (Some w.in-Some.k) w.in-Some.is in w.ep-is ∙ at w.in-Some.k f.1 true (lt-ltb w.in-Some.k 24 f.0)
      | in-None w ↦ w.ep-is ∙ at 24 (yielded c None w.in-None.is) false refl
    ]

pub places-preserved : goal.places-preserved
places-preserved c =
    let s = c.args.s.now in
    let l = c.places in
    let h = c.places-test.true in
    let p = placed c in (
      length-set l.ep l.i _ ∙ l.invariant.0,
      length-set l.eo l.i _ ∙ l.invariant.1,
      written-more l.ep (map (edge_read s) (range 0 12)) l.i (map-range-length (edge_read s) 12 ∙ sym l.invariant.0) l.invariant.2 _ (omega arith)
          (ap (λ (q : ℕ × ℕ). q.0) p ∙ sym (map-range-at (edge_read s) 12 l.i h)),
      written-more l.eo (map (flip_read s) (range 0 12)) l.i (map-range-length (flip_read s) 12 ∙ sym l.invariant.1) l.invariant.3 _ (omega arith)
          (ap (λ (q : ℕ × ℕ). q.1) p ∙ sym (map-range-at (flip_read s) 12 l.i h)),
    )

pub returns-clause-edges : goal.returns-clause-edges
returns-clause-edges c =
    let f = edge_read c.args.s.now in
    let l = c.places in
    written_all l.ep (map f (range 0 12)) l.i (map-range-length f 12 ∙ sym l.invariant.0) l.invariant.2 (omega arith)

pub returns-clause-flips : goal.returns-clause-flips
returns-clause-flips c =
    let f = flip_read c.args.s.now in
    let l = c.places in
    written_all l.eo (map f (range 0 12)) l.i (map-range-length f 12 ∙ sym l.invariant.1) l.invariant.3 (omega arith)
