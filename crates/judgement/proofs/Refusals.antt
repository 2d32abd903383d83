-- Which score there is. Assumes nothing.
use Rattle.std.proofs.Common.{rules, arith, ◌≡◌, refl, sym, ap, ◌∙◌, IfOk, Bool, true, false, leb, eqb, List, ◌++◌, ℕ, zero, suc, ◌+◌, ◌≤◌, ◌<◌, length, take, drop, Result, Ok, Err}
use Rattle.std.proofs.Math.Seq.{take-append_seam, take-length}
use borrow.Author.Tests.{leb-true}
use Rattle.base.specs.Lists.{pick, in_range, Under}
use Rattle.base.proofs.Tests.{in_range-under}
use Rattle.cubie.specs.declared.CubieCube.{CubieCube}
use Rattle.refusal.specs.declared.Refusal.{Refusal}
use Rattle.refusal.specs.Refusals.{number, named, answered}
use Rattle.refusal.proofs.Laws.{given, stays_as, was-refused, told}
use Rattle.words.specs.Answers.{over, refusal, parsed_text, parsed_room, room_after}
use Rattle.words.specs.Text.{parse}
use Rattle.stickers.specs.Reader.{cube_read, read_strict, strict_refusal}
use Rattle.lines.specs.Lines.{first_line}
use Rattle.judgement.specs.Judge.{move_line, Short, score_of, text_refusal, score_moves, score_lines, scored}
use Rattle.judgement.specs.declared.Score.{Score}

-- what the room of 255 moves tells of a text
same-refusal : (t room : List ℕ) → length room ≡ 255 → refusal (parse t) (parse t) room ≡ text_refusal t
unfolding refusal text_refusal
same-refusal t room e = rw e refl

same-answer : (t room : List ℕ) → length room ≡ 255 → parsed_text t room ≡ answered (text_refusal t) (length (parse t))
same-answer t room l = ap (λ (k : ℕ). answered k (length (parse t))) (same-refusal t room l)

text-le : (t : List ℕ) → text_refusal t < 16
unfolding text_refusal
text-le t = go (in_range 18 (parse t)) (leb (length (parse t)) 255)
  where
    go : (a b : Bool) → pick a (pick b 0 10) 7 < 16
    go true true = omega arith
    go true false = omega arith
    go false b = omega arith

pub text-refused : (t room : List ℕ) (r : Refusal) → length room ≡ 255 → parsed_text t room ≡ Err r → (eqb (text_refusal t) 0 ≡ false) × (number r ≡ text_refusal t)
text-refused t room r l h =
    let e = sym (same-answer t room l) ∙ h in
    ((was-refused (text_refusal t) r (length (parse t)) e).0, told (text_refusal t) r (length (parse t)) (text-le t) e)

-- and so the score is
pub text-scored : (c : CubieCube) (t room : List ℕ) (r : Refusal) → length room ≡ 255 → parsed_text t room ≡ Err r → score_moves c t ≡ Err r
unfolding score_moves
text-scored c t room r l h = stays_as (text_refusal t) r (length (parse t)) (score_of c (parse t)) (sym (same-answer t room l) ∙ h)

few : (t : List ℕ) → text_refusal t ≡ 0 → (length (parse t) ≤ 255) × Under 18 (parse t)
unfolding text_refusal
few t z = go (in_range 18 (parse t)) (leb (length (parse t)) 255) refl refl z
  where
    go : (a b : Bool) → in_range 18 (parse t) ≡ a → leb (length (parse t)) 255 ≡ b → ◌≡◌ {A = ℕ} (pick a (pick b 0 10) 7) 0 → (length (parse t) ≤ 255) × Under 18 (parse t)
    go true true x y e = (leb-true (length (parse t)) 255 y, in_range-under 18 (parse t) x)
    go true false x y e = absurd (omega arith)
    go false b x y e = absurd (omega arith)

pub text-taken : (t room : List ℕ) (n : ℕ) → length room ≡ 255 → parsed_text t room ≡ Ok n → (text_refusal t ≡ 0) × (n ≡ length (parse t)) × (parsed_room t room ≡ over room 0 (parse t)) × (length (parse t) ≤ 255) × Under 18 (parse t)
unfolding room_after
text-taken t room n l h =
    let p = given (text_refusal t) (length (parse t)) n (sym (same-answer t room l) ∙ h) in
    let f = few t p.0 in
    (p.0, sym p.1, rw (same-refusal t room l, p.0) refl, f.0, f.1)

-- the first places of the room are the list
pub first-places : (d l : List ℕ) (n : ℕ) → n ≡ length l → take n (over d 0 l) ≡ l
first-places d l n e = ap (λ (k : ℕ). take k (over d 0 l)) e ∙ ap (λ (m : List ℕ). take (length l) (m ++ drop (0 + length l) d)) (take-length l) ∙ take-append_seam l (drop (0 + length l) d)

-- no number of moves or strokes above 255 is told
abbrev pub Few : Score → Type 0
Few k = (k.moves ≤ 255) × (k.strokes ≤ 255)

pub few-moves : (s : List ℕ) → IfOk (scored s) Few
unfolding scored score_lines score_moves text_refusal
few-moves s = go (leb (length s) 1024) (eqb (strict_refusal (first_line s)) 0) (in_range 18 ms) (leb (length ms) 255) refl
  where
    ms : List ℕ
    ms = parse (move_line s)

    told : Bool → Bool → Bool → Bool → Result Score Refusal
    told a b c d =
        pick a
        (pick b (answered (pick c (pick d 0 10) 7) (score_of (cube_read (first_line s)) ms)) (Err (named (strict_refusal (first_line s)))))
        (Err (named 10))

    go : (a b c d : Bool) → leb (length ms) 255 ≡ d → IfOk (told a b c d) Few
    go false b c d e = tt
    go true false c d e = tt
    go true true false d e = tt
    go true true true false e = tt
    go true true true true e = let h = leb-true (length ms) 255 e in (h, h)

pub short-score : (s : List ℕ) → IfOk (scored s) Short
short-score s = go (scored s) (few-moves s)
  where
    go : (q : Result Score Refusal) → IfOk q Few → IfOk q Short
    go (Ok k) h = record { moves = omega (arith, h.0); strokes = omega (arith, h.1) }
    go (Err r) h = tt

-- the refusal of the sticker line is told
pub lines-refused : (s t : List ℕ) (r : Refusal) → read_strict s ≡ Err r → score_lines s t ≡ Err r
unfolding score_lines
lines-refused s t r e = go (strict_refusal s) e
  where
    go : (n : ℕ) → answered n (cube_read s) ≡ Err r → pick {A = Result Score Refusal} (eqb n 0) (score_moves (cube_read s) t) (Err (named n)) ≡ Err r
    go zero q = search rules
    go (suc n) q = search rules
