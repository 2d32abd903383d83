-- `search::inner::read_word` meets its contract: the high part of the word says how the search came out, the low part what is left. Assumes nothing.
use Prim.Native.Nat.{◌<◌}
use mathlib.Core.Path.{◌≡◌, ◌∙◌}
use native.Mathlib.Nat.{lt_of_le_of_lt}
use native.Mathlib.Omega.{arith}
use lib.Dec.{lit<}
use lib.ListN.{length}
use Rattle.search.proofs.Words.{no-moves, empty-is, solved-is}
use borrow.Author.Rules.{rules}
use Rattle.search.proofs.inner.read_word.Goals as goal

pub returns-in-1 : goal.returns-in-1
returns-in-1 c =
    let small : c.args.budget < 4294967296 = c.ranges.budget.fits in
    λ q p₁ p₂ h g. (c.no_lists.ensures ∙ empty-is _ q _ 1 g.word (lt_of_le_of_lt h small) c.in-1.is (lit< tt), no-moves _ _ c.no_lists.ensures)

pub returns-in-2 : goal.returns-in-2
returns-in-2 c =
    let small : c.args.budget < 4294967296 = c.ranges.budget.fits in
    λ q p₁ p₂ h g. (c.no_lists-in-2.ensures ∙ empty-is _ q _ 2 g.word (lt_of_le_of_lt h small) c.in-2.is (lit< tt), no-moves _ _ c.no_lists-in-2.ensures)

pub returns-in-3 : goal.returns-in-3
returns-in-3 c =
    let small : c.args.budget < 4294967296 = c.ranges.budget.fits in
    λ q p₁ p₂ h g. (c.no_lists-in-3.ensures ∙ empty-is _ q _ 3 g.word (lt_of_le_of_lt h small) c.in-3.is (lit< tt), no-moves _ _ c.no_lists-in-3.ensures)

pub returns-in_default : goal.returns-in_default
returns-in_default c =
    let small : c.args.budget < 4294967296 = c.ranges.budget.fits in
    let two : length c.args.two ≡ 31 = search rules in
    λ q p₁ p₂ h g.
    solved-is _ q _ _ p₁ p₂ _ _ c.requires.2 two g.word (lt_of_le_of_lt h small) (omega (arith, c.requires.0, c.in_default)) g.paths
