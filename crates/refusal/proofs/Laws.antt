-- What a test that refuses by a number leaves of an answer. Assumes nothing.
use Rattle.std.proofs.Common.{rules, arith, ◌≡◌, refl, sym, ap, ap₂, ◌∙◌, IfOk, ℕ, zero, suc, ◌<◌, Bool, true, false, leb, eqb, Result, Ok, Err}
use Rattle.base.specs.Lists.{pick, all_below}
use Rattle.base.proofs.Tests.{below_true}
use borrow.Author.Tests.{eqb-true, ne_eqb}
use Rattle.refusal.specs.declared.Refusal.{Refusal}
use Rattle.refusal.specs.declared.Refusal.TheVariants as refusal
use Rattle.refusal.specs.Refusals.{number, named, answered, checked, lowest}

-- what was not refused has the number 0
pub not_refused : (n : ℕ) (u : Unit {0}) → checked n ≡ Ok u → n ≡ 0
not_refused zero u e = refl
not_refused (suc n) u e = search rules

pub ok_checked : (n : ℕ) (q : Result (Unit {0}) Refusal) → q ≡ checked n → IfOk q (λ _. n ≡ 0)
ok_checked n (Ok u) e = not_refused n u (sym e)
ok_checked n (Err r) e = tt

named_checked : (n : ℕ) → checked (suc n) ≡ Err (named (suc n))
named_checked n = search rules

-- a refusal stands, whatever the value
pub stays : {A : Type 0} (n : ℕ) (r : Refusal) (a : A) → checked n ≡ Err r → answered n a ≡ Err r
stays zero r a e = search rules
stays (suc n) r a e = search rules

pub stays_as : {A B : Type 0} (n : ℕ) (r : Refusal) (a : A) (b : B) → answered n a ≡ Err r → answered n b ≡ Err r
stays_as zero r a b e = search rules
stays_as (suc n) r a b e = search rules

-- where there is no refusal the value is given
pub passes : {A : Type 0} (n : ℕ) (a : A) → n ≡ 0 → answered n a ≡ Ok a
passes n a z = rw z refl

-- where there is one, it is told
pub refuses : {A : Type 0} (n k : ℕ) (a : A) → n ≡ suc k → answered n a ≡ Err (named (suc k))
refuses n k a e = rw e (stays (suc k) (named (suc k)) a (named_checked k))

-- and what is given was not refused
pub given : {A : Type 0} (n : ℕ) (a b : A) → answered n a ≡ Ok b → (n ≡ 0) × (a ≡ b)
given zero a b e = (refl, search rules)
given (suc n) a b e = search rules

-- a second test comes only where the first refuses nothing
pub stays_first : {A B : Type 0} (n m : ℕ) (r : Refusal) (a : A) (b : B) → answered n a ≡ Err r → answered (pick (eqb n 0) m n) b ≡ Err r
stays_first zero m r a b e = search rules
stays_first (suc n) m r a b e = rw (ne_eqb (suc n) 0 (λ z. omega arith)) (search rules)

-- the refusals' numbers are 1 to 15
pub number-small : (r : Refusal) → number r < 16
number-small refusal.Stickers = omega arith
number-small refusal.Letter = omega arith
number-small refusal.Unsolvable = omega arith
number-small refusal.Corner = omega arith
number-small refusal.Edge = omega arith
number-small refusal.Range = omega arith
number-small refusal.Move = omega arith
number-small refusal.Index = omega arith
number-small refusal.Limit = omega arith
number-small refusal.Length = omega arith
number-small refusal.Entry = omega arith
number-small refusal.LastCheck = omega arith
number-small refusal.Table = omega arith
number-small refusal.Unreached = omega arith
number-small refusal.Picture = omega arith

-- what is told is the refusal of the number
pub names : (n : ℕ) (r : Refusal) → checked n ≡ Err r → (n ≡ 0 → ⊥) × (named n ≡ r)
names zero r e = search rules
names (suc n) r e = let z : ◌≡◌ {A = Result (Unit {0}) Refusal} (Err (named (suc n))) (Err r) = sym (named_checked n) ∙ e in ((λ q. omega arith), search rules)

-- a refusal has the number by which it is named
abbrev named-right : ℕ → Bool
named-right n = eqb (number (named (suc n))) (suc n)

all-named : all_below named-right 15 ≡ true
all-named = refl

pub number_named : (n : ℕ) → n < 15 → number (named (suc n)) ≡ suc n
number_named n h = eqb-true _ _ (below_true named-right 15 all-named n h)

-- n: the refusal that the code found, m: that of the definition
module _ {A : Type 0} (n m : ℕ) (e : n ≡ m) where
  pub answered-refused : (n ≡ 0 → ⊥) → (a : A) → Err (named n) ≡ answered m a
  answered-refused h a = rw (← e, ne_eqb n 0 h) refl

  pub answered-good : n ≡ 0 → (a b : A) → a ≡ b → Ok a ≡ answered m b
  answered-good z a b s = rw (← e, z, s) refl

-- what a refusal tells of its number
pub was-refused : {A : Type 0} (n : ℕ) (r : Refusal) (a : A) → answered n a ≡ Err r → (eqb n 0 ≡ false) × (r ≡ named n)
was-refused n r a e = let z = names n r (stays_as n r a tt e) in (ne_eqb n 0 z.0, sym z.1)

-- the lowest of two refusals is that of the lowest number
pub lowest_both : (m n : ℕ) → m < 15 → n < 15 → lowest (checked (suc m)) (checked (suc n)) ≡ pick (leb (suc m) (suc n)) (checked (suc m)) (checked (suc n))
lowest_both m n l h =
    rw (named_checked m, named_checked n)
    (ap₂ (λ (a b : ℕ). pick {A = Result (Unit {0}) Refusal} (leb a b) (Err (named (suc m))) (Err (named (suc n)))) (number_named m l) (number_named n h))

-- and its number is that by which it was refused
pub told : {A : Type 0} (n : ℕ) (r : Refusal) (a : A) → n < 16 → answered n a ≡ Err r → number r ≡ n
told zero r a h e = search rules
told (suc n) r a h e = sym (ap number (names (suc n) r (stays_as (suc n) r a tt e)).1) ∙ number_named n (omega (arith, h))
