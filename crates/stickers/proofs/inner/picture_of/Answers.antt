-- `stickers::inner::picture_of` meets its contract. Assumes nothing.
use mathlib.Core.Path.{◌≡◌, refl, sym, ap, subst, ◌∙◌}
use Prim.Native.Nat.{ℕ}
use native.Mathlib.Omega.{arith}
use lib.ListN.{length}
use Rattle.base.specs.Lists.{Under}
use Rattle.cubie.proofs.Range.{ranges}
use Rattle.stickers.specs.Picture.{paint, shown, picture}
use Rattle.stickers.specs.Stickers.{corner_facelet, edge_facelet, corner_color, edge_color, solved_face}
use Rattle.stickers.proofs.Places.{corner-places, edge_places}
use borrow.Author.Rules.{rules}
use Rattle.stickers.proofs.inner.picture_of.Goals as goal

pub paint_pieces-requires : goal.paint_pieces-requires
unfolding corner_facelet edge_facelet corner_color edge_color solved_face
paint_pieces-requires c =
    let g = c.well_formed in
    let b = c.args.c in
    let r = ranges b c.requires in
    let l : length b.cp ≡ 8 = search rules in
    let k : length b.co ≡ 8 = search rules in record { n_nonzero = (omega arith, omega arith, k ∙ sym l, subst (λ (n : ℕ). Under n b.cp) (sym l) r.0, r.1); facelets_len = (refl, corner-places.1, refl, refl) }

pub paint_pieces-requires-2 : goal.paint_pieces-requires-2
unfolding corner_facelet edge_facelet corner_color edge_color solved_face
paint_pieces-requires-2 c =
    let g = c.well_formed in
    let b = c.args.c in
    let r = ranges b c.requires in
    let l : length b.ep ≡ 12 = search rules in
    let k : length b.eo ≡ 12 = search rules in record { n_nonzero = (omega arith, omega arith, k ∙ sym l, subst (λ (n : ℕ). Under n b.ep) (sym l) r.2, r.3); facelets_len = (refl, edge_places.1, refl, c.paint_pieces.auto.face) }

pub returns : goal.returns
unfolding picture corner_facelet edge_facelet corner_color edge_color solved_face
returns c = c.paint_pieces-2.ensures ∙ ap (paint edge_facelet (shown 2 edge_color c.args.c.ep c.args.c.eo)) c.paint_pieces.ensures
