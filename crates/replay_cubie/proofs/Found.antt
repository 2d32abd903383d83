-- Where the first byte of a kind stands: at most at the text's length. Assumes nothing.
use Rattle.std.proofs.Common.{ℕ, suc, List, [], ◌∷◌, ◌≤◌, Bool, true, false, eqb, length, arith}
use Rattle.base.specs.Lists.{pick}
use Rattle.lines.specs.Lines.{index_of}

within : (q : Bool) (i n : ℕ) → i ≤ n → pick q 0 (suc i) ≤ suc n
within true i n h = omega arith
within false i n h = omega arith

pub index_le : (b : ℕ) (s : List ℕ) → index_of b s ≤ length s
unfolding index_of
index_le b [] = omega arith
index_le b (x ∷ xs) = within (eqb x b) (index_of b xs) (length xs) (index_le b xs)
