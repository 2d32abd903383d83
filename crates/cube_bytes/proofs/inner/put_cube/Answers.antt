-- `cube_bytes::inner::put_cube` meets its contract: each part stands behind those before it. Assumes nothing.
use mathlib.Core.Path.{◌≡◌, refl, sym, ap, ◌∙◌}
use mathlib.Core.List.{List, ◌++◌, append-nil}
use Prim.Native.Nat.{ℕ, ◌+◌}
use native.Mathlib.Omega.{arith}
use borrow.Author.Rules.{rules}
use borrow.Rule.Slice.PartMut.{put_mid}
use lib.ListN.{length, drop, length-append, drop_of_length-le}
use lib.Seq.{paste}
use Rattle.std.proofs.lemmas.Slice.{put_mid-paste}
use Rattle.base.proofs.Steps.{paste-next}
use Rattle.cubie.specs.Cube.{bytes_of}
use Rattle.cube_bytes.proofs.inner.put_cube.Goals as goal

placed : (a k m : ℕ) (front d e s t : List ℕ) → t ≡ s → length front ≡ a → length s ≡ k → a + k ≡ m → e ≡ front ++ drop a d → put_mid a k e t ≡ (front ++ s) ++ drop m d
placed a k m front d e s t v l r n h =
    put_mid-paste a k e t s k v refl (sym r) ∙ ap (paste e a s) (sym r) ∙ paste-next front d s e a m l (omega arith) h

pub returns : goal.returns
returns c =
    let b = c.args.c in
    let d = c.args.out.now in
    let p : length b.cp ≡ 8 = search rules in
    let q : length b.co ≡ 8 = search rules in
    let r : length b.ep ≡ 12 = search rules in
    let s : length b.eo ≡ 12 = search rules in
    let two = placed 8 8 16 b.cp d _ b.co _ c.copy_from_slice-2.ensures.after p q refl (ap (λ (t : List ℕ). t ++ drop 8 d) c.copy_from_slice.ensures.after) in
    let three = placed 16 12 28 (b.cp ++ b.co) d _ b.ep _ c.copy_from_slice-3.ensures.after (length-append b.cp b.co ∙ omega arith) r refl two in
    placed 28 12 40 ((b.cp ++ b.co) ++ b.ep) d _ b.eo _ c.copy_from_slice-4.ensures.after (omega (arith, length-append (b.cp ++ b.co) b.ep, length-append b.cp b.co)) s refl three
    ∙ ap (λ (t : List ℕ). bytes_of b ++ t) (drop_of_length-le d {i = 40} (omega (arith, c.requires)))
    ∙ append-nil (bytes_of b)
