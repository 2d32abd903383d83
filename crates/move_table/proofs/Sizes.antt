-- What a builder answers, and what it leaves, by the length of what it is lent. Assumes nothing.
use mathlib.Core.Path.{◌≡◌, refl}
use mathlib.Core.List.{List}
use Prim.Native.Nat.{ℕ}
use lib.ListN.{length}
use borrow.Author.Tests.{eq-eqb, ne_eqb}
use Rattle.std.proofs.Common.{Ok, Err}
use Rattle.refusal.specs.declared.Refusal.TheVariants.{Length}
use Rattle.move_table.specs.Layout.{sized_verdict, built}

module _ (n : ℕ) (before whole : List ℕ) where
  pub not-sized : (length before ≡ n → ⊥) → (Err Length ≡ sized_verdict n before) × (before ≡ built n whole before)
  not-sized h = rw (ne_eqb (length before) n h) (refl, refl)

  pub sized : (after : List ℕ) → length before ≡ n → after ≡ whole → (Ok tt ≡ sized_verdict n before) × (after ≡ built n whole before)
  sized after h e = rw (eq-eqb (length before) n h) (refl, e)
