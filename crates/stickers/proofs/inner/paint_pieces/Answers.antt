-- `stickers::inner::paint_pieces` meets its contract. The loop's invariant: the first k letters are painted. Assumes nothing.
use mathlib.Core.Path.{sym, ap₂, ◌∙◌}
use mathlib.Core.List.{List}
use Prim.Native.Nat.{ℕ, ◌+◌, ◌-◌, ◌/◌, ◌%◌}
use native.Mathlib.Omega.{arith}
use lib.ListN.{get_or, set, length-set}
use lib.Seq.{take_all}
use Rattle.base.proofs.Product.{map-range-at, map-range-length}
use Rattle.stickers.specs.Picture.{paint, shown_at, shown}
use Rattle.stickers.proofs.Paint.{paint-none, paint-more, letter-lt}
use Rattle.stickers.proofs.inner.paint_pieces.Goals as goal

pub loop-k-init : goal.loop-k-init
loop-k-init c = (c.requires.facelets_len.3, paint-none c.args.face.now)

pub overflow_add-face-in-loop-k : goal.overflow_add-face-in-loop-k
overflow_add-face-in-loop-k c = omega (arith, letter-lt c.args.n c.args.p.now c.args.t.now c.loop-k.k c.requires.n_nonzero (omega arith) (c.loop-k.k % c.args.n + (c.args.n - get_or c.args.t.now (c.loop-k.k / c.args.n) 0)))

pub loop-k-preserved : goal.loop-k-preserved
loop-k-preserved c =
    let a = c.args in
    let l = c.loop-k in
    let xs = shown a.n a.colors.now a.p.now a.t.now in
    let f = shown_at a.n a.colors.now a.p.now a.t.now in (
      length-set l.face _ _ ∙ l.invariant.0,
      ap₂ (λ (s : List ℕ) (x : ℕ). set s (get_or a.facelets.now l.k 0) x) l.invariant.1 (sym (map-range-at f 24 l.k (omega arith)))
          ∙ sym (paint-more a.facelets.now xs a.face.now l.k (omega (arith, c.requires.facelets_len.0)) (omega (arith, map-range-length f 24))),
    )

pub returns : goal.returns
returns c =
    let a = c.args in
    let l = c.loop-k in
    let f = shown_at a.n a.colors.now a.p.now a.t.now in
    l.invariant.1
    ∙ ap₂ (λ (u v : List ℕ). paint u v a.face.now) (take_all l.k a.facelets.now (omega (arith, c.requires.facelets_len.0))) (take_all l.k (shown a.n a.colors.now a.p.now a.t.now) (omega (arith, map-range-length f 24)))
