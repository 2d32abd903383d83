-- `facelet::read_plain` meets its contract. Assumes nothing.
use Rattle.std.proofs.Common.{◌≡◌, true, false, refl, ap, sym, ◌∙◌, Ok}
use borrow.Author.Tests.{eq-eqb, ne_eqb}
use Rattle.cubie.specs.Cube.{refusal_of}
use Rattle.cubie.specs.Solvable.{solvable}
use Rattle.cubie.proofs.Range.{no-refusal}
use Rattle.refusal.proofs.Laws.{passes, refuses}
use Rattle.stickers.specs.Reader.{all_colors, cube_read, plain_refusal}
use Rattle.stickers.proofs.Ranges.{read-range}
use Rattle.facelet.proofs.read_plain.Goals as goal

pub returns-then-s-ne54-clause-value : goal.returns-then-s-ne54-clause-value
unfolding plain_refusal
returns-then-s-ne54-clause-value c = sym (refuses (plain_refusal c.args.s.now) 0 _ (rw (ne_eqb _ 54 c.if-s-ne54.true) refl))

pub returns-then-not-all_colors-clause-value : goal.returns-then-not-all_colors-clause-value
unfolding plain_refusal
returns-then-not-all_colors-clause-value c =
    let e : all_colors c.args.s.now ≡ false = sym c.all_colors.ensures ∙ c.if-not-all_colors.true in
    sym (refuses (plain_refusal c.args.s.now) 1 _ (rw (eq-eqb _ 54 c.if-s-ne54.false, e) refl))

pub is_solvable-requires : goal.is_solvable-requires
is_solvable-requires c = ap refusal_of c.cube_read-cube.ensures ∙ no-refusal (read-range c.args.s.now)

pub returns-then-not-is_solvable-clause-value : goal.returns-then-not-is_solvable-clause-value
unfolding plain_refusal
returns-then-not-is_solvable-clause-value c =
    let s = c.args.s.now in
    let e : all_colors s ≡ true = sym c.all_colors.ensures ∙ c.if-not-all_colors.false in
    let f : solvable (cube_read s) ≡ false = sym (ap solvable c.cube_read-cube.ensures) ∙ sym c.is_solvable.ensures ∙ c.if-not-is_solvable.true in
    sym (refuses (plain_refusal s) 2 _ (rw (eq-eqb _ 54 c.if-s-ne54.false, e, f) refl))

pub returns-clause-read : goal.returns-clause-read
unfolding plain_refusal
returns-clause-read c =
    let s = c.args.s.now in
    let e : all_colors s ≡ true = sym c.all_colors.ensures ∙ c.if-not-all_colors.false in
    let f : solvable (cube_read s) ≡ true = sym (ap solvable c.cube_read-cube.ensures) ∙ sym c.is_solvable.ensures ∙ c.if-not-is_solvable.false in
    (rw (eq-eqb _ 54 c.if-s-ne54.false, e, f) refl, c.cube_read-cube.ensures)

pub returns-clause-value : goal.returns-clause-value
returns-clause-value c = ap Ok c.cube_read-cube.ensures ∙ sym (passes _ _ (returns-clause-read c).0)
