-- Which refusal there is, and which texts are taken. Assumes nothing.
use mathlib.Core.Path.{◌≡◌, refl}
use mathlib.Core.Bool.{Bool, true, false}
use mathlib.Core.List.{List}
use Prim.Native.Nat.{ℕ, ◌≤◌, ◌<◌}
use lib.Dec.{leb}
use lib.ListN.{length}
use borrow.Author.Tests.{le-leb, lt-leb}
use Rattle.base.specs.Lists.{pick, Under, in_range}
use Rattle.base.proofs.Tests.{in_range-under, under-in_range}
use Rattle.std.proofs.Common.{rules, Ok, Err}
use Rattle.refusal.specs.declared.Refusal.{Refusal}
use Rattle.refusal.specs.Refusals.{answered}
use Rattle.words.specs.Answers.{over, refusal, room_after, moves_counted, parsed_text, parsed_room}
use Rattle.words.specs.Text.{text_of, parse}
use Rattle.words.proofs.Text.{parse-text, text-parse}

module _ (ms out room : List ℕ) where
  pub no-moves : in_range 18 ms ≡ false → refusal ms out room ≡ 7
  unfolding refusal
  no-moves e = rw e

  pub no_room : in_range 18 ms ≡ true → length room < length out → refusal ms out room ≡ 10
  unfolding refusal
  no_room e h = rw (e, lt-leb (length out) (length room) h)

  pub none : in_range 18 ms ≡ true → length out ≤ length room → refusal ms out room ≡ 0
  unfolding refusal
  none e h = rw (e, le-leb (length out) (length room) h)

-- what the count says of a text
pub counted-moves : (ms : List ℕ) (n : ℕ) → moves_counted ms ≡ Ok n → (in_range 18 ms ≡ true) × (length ms ≡ n)
unfolding moves_counted
counted-moves ms n e = go (in_range 18 ms) e
  where
    go : (b : Bool) → answered (pick b 0 7) (length ms) ≡ Ok n → (b ≡ true) × (length ms ≡ n)
    go true q = (refl, search rules)
    go false q = search rules

pub counted_none : (ms : List ℕ) (r : Refusal) → moves_counted ms ≡ Err r → in_range 18 ms ≡ false
unfolding moves_counted
counted_none ms r e = go (in_range 18 ms) e
  where
    go : (b : Bool) → answered (pick b 0 7) (length ms) ≡ Err r → b ≡ false
    go true q = search rules
    go false q = refl

-- ---- the laws of Text.antt, of the public answers

-- the text of a list of moves is taken, where there is room, and gives that list
pub text-taken : (ms room : List ℕ) → Under 18 ms → length ms ≤ length room → (parsed_text (text_of ms) room ≡ Ok (length ms)) × (parsed_room (text_of ms) room ≡ over room 0 ms)
unfolding room_after
text-taken ms room u h =
    let e = parse-text ms u in
    let n = none ms ms room (under-in_range 18 ms u) h in
    (rw (e, n), rw (e, n))

-- a text that is taken is the text of its list, and nothing else is
pub taken-text : (t room : List ℕ) (n : ℕ) → parsed_text t room ≡ Ok n → Under 18 (parse t) × (text_of (parse t) ≡ t) × (length (parse t) ≡ n)
unfolding refusal
taken-text t room n e =
    let a = go (in_range 18 (parse t)) (leb (length (parse t)) (length room)) e in
    let u = in_range-under 18 (parse t) a.0 in
    (u, text-parse t u, a.1)
  where
    go : (b c : Bool) → answered (pick b (pick c 0 10) 7) (length (parse t)) ≡ Ok n → (b ≡ true) × (length (parse t) ≡ n)
    go true true q = (refl, search rules)
    go true false q = search rules
    go false c q = search rules
