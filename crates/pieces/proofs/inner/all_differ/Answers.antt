-- `pieces::inner::all_differ` meets its contract. The loop's invariant: going on from the bits met gives the mask of the whole. Assumes nothing.
use mathlib.Core.Path.{◌≡◌, sym, ap, ◌∙◌}
use Prim.Native.Nat.{ℕ}
use lib.Count.{ones}
use lib.Dec.{eqb}
use lib.ListN.{length, drop_of_length-le}
use Rattle.base.proofs.Mask.{mask_from, mask-law}
use Rattle.pieces.proofs.inner.all_differ.Goals as goal

pub returns : goal.returns
returns c =
    let s = c.args.s.now in
    let l = c.loop-x in
    let e : l.met ≡ mask_from 0 s = sym (ap (mask_from l.met) (drop_of_length-le s c.loop-x-test.false)) ∙ l.invariant.1 in
    ap (λ (m : ℕ). eqb (ones m) (length s)) e ∙ mask-law s
