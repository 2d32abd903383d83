-- How the answer is read from the word that the search hands back, and from the two paths. Assumes nothing.
use Prim.Native.Nat.{ℕ, zero, suc, ◌+◌, ◌-◌, ◌*◌, ◌/◌, ◌%◌, ◌<◌, ◌≤◌}
use mathlib.Core.Path.{◌≡◌, sym, ap, subst, ◌∙◌}
use mathlib.Core.List.{List}
use native.Mathlib.Omega.{arith}
use lib.ListN.{length, replicate, take, length-append, length-replicate}
use lib.Seq.{take_at}
use Rattle.base.specs.Lists.{Under}
use Rattle.base.specs.Search.{Res, still, done, left_of}
use Rattle.phase2_steps.specs.Rules.{Ans, solved, nothing, spent, refused}
use Rattle.phase2_steps.specs.Paths.{padded, Stored, word_of}
use Rattle.phase1_steps.specs.First.{Leaves1}
use Rattle.search.specs.Solve.{no_lists, answer_of, HasMoves}
use Rattle.search.specs.declared.Found.{Found}
use Rattle.search.specs.declared.Found.TheVariants as found
use Rattle.refusal.specs.declared.Refusal.TheVariants as refusal
use Rattle.search.specs.declared.Solution.{Solution}

-- empty lists
pub no-moves : {s : Solution} (f : Found) (count : ℕ) → s ≡ no_lists f count → HasMoves s
no-moves f count e = subst HasMoves (sym e) (record { one = tt; two = tt; n1 = omega arith; n2 = omega arith })

-- a list in its array of 31
stored-fits : {l path : List ℕ} → Stored l path → length path ≡ 31 → length l ≤ 31
unfolding padded
stored-fits {l} {path} s e = omega (arith, e, ap length s.is, length-append l (replicate (31 - length l) 0), length-replicate {A = ℕ} (31 - length l) 0)

stored-moves : {l path : List ℕ} {n : ℕ} → Stored l path → length l ≡ n → Under 18 (take n path)
unfolding padded
stored-moves {l} {path} {n} s e = subst (Under 18) (sym (ap (take n) s.is ∙ take_at l (replicate (31 - length l) 0) n e)) s.moves

-- how a search with the high part n came out, where it carries no lists
abbrev empty_of : ℕ → Found
empty_of zero = found.Nothing
empty_of (suc zero) = found.Nothing
empty_of (suc (suc zero)) = found.Spent
empty_of (suc (suc (suc n))) = found.Refused refusal.Entry

-- the parts of a word k * 2^32 + s
high : (k s r : ℕ) → r ≡ k * 4294967296 + s → s < 4294967296 → r / 4294967296 ≡ k
high k s r e l = omega (arith, e, l)

low : (k s r : ℕ) → r ≡ k * 4294967296 + s → s < 4294967296 → r % 4294967296 ≡ s
low k s r e l = omega (arith, e, l)

module _ (budget : ℕ) where
  left_is : (q : Res (Ans (List ℕ × List ℕ)) ℕ) (r : ℕ) → r ≡ word_of (λ l. l.1) q → left_of q < 4294967296 → r % 4294967296 ≡ left_of q
  unfolding word_of left_of
  left_is (still s) r e l = low 0 s r (omega (arith, e)) l
  left_is (done nothing s) r e l = low 1 s r (omega (arith, e)) l
  left_is (done spent s) r e l = low 2 s r (omega (arith, e)) l
  left_is (done refused s) r e l = low 3 s r (omega (arith, e)) l
  left_is (done (solved k) s) r e l = low (4 + length k.1) s r e l

  -- no more than the budget is left
  pub made-fits : (q : Res (Ans (List ℕ × List ℕ)) ℕ) (r n : ℕ) → r ≡ word_of (λ l. l.1) q → left_of q ≤ n → n ≤ budget → budget < 4294967296 → r % 4294967296 ≤ budget
  made-fits q r n e l h b = subst (λ (k : ℕ). k ≤ budget) (sym (left_is q r e (omega (arith, l, h, b)))) (omega (arith, l, h))

  -- what the answer is, by the high part n of the word r
  pub empty-is : (q : Res (Ans (List ℕ × List ℕ)) ℕ) (r n : ℕ) → r ≡ word_of (λ l. l.1) q → left_of q < 4294967296 → r / 4294967296 ≡ n → n < 4 → no_lists (empty_of n) (budget - r % 4294967296) ≡ answer_of budget q
  unfolding word_of left_of answer_of
  empty-is (still s) r n e l h k = λ i. no_lists (empty_of ((sym h ∙ high 0 s r (omega (arith, e)) l) i)) (budget - low 0 s r (omega (arith, e)) l i)
  empty-is (done nothing s) r n e l h k = λ i. no_lists (empty_of ((sym h ∙ high 1 s r (omega (arith, e)) l) i)) (budget - low 1 s r (omega (arith, e)) l i)
  empty-is (done spent s) r n e l h k = λ i. no_lists (empty_of ((sym h ∙ high 2 s r (omega (arith, e)) l) i)) (budget - low 2 s r (omega (arith, e)) l i)
  empty-is (done refused s) r n e l h k = λ i. no_lists (empty_of ((sym h ∙ high 3 s r (omega (arith, e)) l) i)) (budget - low 3 s r (omega (arith, e)) l i)
  empty-is (done (solved m) s) r n e l h k = absurd (omega (arith, h, k, high (4 + length m.1) s r e l))

  pub solved-is : (q : Res (Ans (List ℕ × List ℕ)) ℕ) (r d : ℕ) (p₁ p₂ o₁ o₂ : List ℕ) → d ≤ 31 → length o₂ ≡ 31 → r ≡ word_of (λ l. l.1) q → left_of q < 4294967296 → 4 ≤ r / 4294967296 → Leaves1 q d p₁ p₂ o₁ o₂
      → ◌≡◌ {A = Solution} (record { found = found.Solved; count = budget - r % 4294967296; n1 = d; phase1 = o₁; n2 = r / 4294967296 - 4; phase2 = o₂ }) (answer_of budget q)
      × HasMoves (record { found = found.Solved; count = budget - r % 4294967296; n1 = d; phase1 = o₁; n2 = r / 4294967296 - 4; phase2 = o₂ })
  unfolding word_of left_of answer_of Leaves1
  solved-is (still s) r d p₁ p₂ o₁ o₂ n z e l h g = absurd (omega (arith, h, high 0 s r (omega (arith, e)) l))
  solved-is (done nothing s) r d p₁ p₂ o₁ o₂ n z e l h g = absurd (omega (arith, h, high 1 s r (omega (arith, e)) l))
  solved-is (done spent s) r d p₁ p₂ o₁ o₂ n z e l h g = absurd (omega (arith, h, high 2 s r (omega (arith, e)) l))
  solved-is (done refused s) r d p₁ p₂ o₁ o₂ n z e l h g = absurd (omega (arith, h, high 3 s r (omega (arith, e)) l))
  solved-is (done (solved k) s) r d p₁ p₂ o₁ o₂ n z e l h g = (
    λ i. record { found = found.Solved; count = budget - low (4 + length k.1) s r e l i; n1 = sym g.0 i; phase1 = g.1.0.is i; n2 = count i; phase2 = g.1.1.is i },
    record { one = stored-moves g.1.0 g.0; two = stored-moves g.1.1 (sym count); n1 = n; n2 = omega (arith, count, stored-fits g.1.1 z) },
  )
    where
      count : r / 4294967296 - 4 ≡ length k.1
      count = omega (arith, high (4 + length k.1) s r e l)
