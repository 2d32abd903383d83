-- The unfolded cube: its rows are what the bytes of one list show. Assumes nothing.
use mathlib.Core.Path.{◌≡◌, refl, sym, ap, ◌∙◌}
use mathlib.Core.List.{List, [], ◌∷◌, map}
use Prim.Native.Nat.{ℕ, ◌+◌, ◌-◌, ◌<◌}
use lib.Dec.{ltb}
use lib.ListN.{length, get_or, drop, set}
use Rattle.base.specs.Lists.{pick, Under}
use Rattle.base.proofs.Steps.{next}
use Rattle.base.proofs.Tests.{in_range-under}
use Rattle.words.specs.Answers.{over}
use Rattle.words.proofs.Over.{over-cons}
use Rattle.solution.specs.Drawing.{drawing}

-- a space, an LF, or a sticker whose number is 48 less
abbrev pub unfolded : List ℕ
unfolded = 32 ∷ 32 ∷ 32 ∷ 32 ∷ 32 ∷ 32 ∷ 32 ∷ 48 ∷ 32 ∷ 49 ∷ 32 ∷ 50 ∷ 10 ∷ 32 ∷ 32 ∷ 32 ∷ 32 ∷ 32 ∷ 32 ∷ 32 ∷ 51 ∷ 32 ∷ 52 ∷ 32 ∷ 53 ∷ 10 ∷ 32 ∷ 32 ∷ 32 ∷ 32 ∷ 32 ∷ 32 ∷ 32 ∷ 54 ∷ 32 ∷ 55 ∷ 32 ∷ 56 ∷ 10 ∷ 84 ∷ 32 ∷ 85 ∷ 32 ∷ 86 ∷ 32 ∷ 32 ∷ 66 ∷ 32 ∷ 67 ∷ 32 ∷ 68 ∷ 32 ∷ 32 ∷ 57 ∷ 32 ∷ 58 ∷ 32 ∷ 59 ∷ 32 ∷ 32 ∷ 93 ∷ 32 ∷ 94 ∷ 32 ∷ 95 ∷ 10 ∷ 87 ∷ 32 ∷ 88 ∷ 32 ∷ 89 ∷ 32 ∷ 32 ∷ 69 ∷ 32 ∷ 70 ∷ 32 ∷ 71 ∷ 32 ∷ 32 ∷ 60 ∷ 32 ∷ 61 ∷ 32 ∷ 62 ∷ 32 ∷ 32 ∷ 96 ∷ 32 ∷ 97 ∷ 32 ∷ 98 ∷ 10 ∷ 90 ∷ 32 ∷ 91 ∷ 32 ∷ 92 ∷ 32 ∷ 32 ∷ 72 ∷ 32 ∷ 73 ∷ 32 ∷ 74 ∷ 32 ∷ 32 ∷ 63 ∷ 32 ∷ 64 ∷ 32 ∷ 65 ∷ 32 ∷ 32 ∷ 99 ∷ 32 ∷ 100 ∷ 32 ∷ 101 ∷ 10 ∷ 32 ∷ 32 ∷ 32 ∷ 32 ∷ 32 ∷ 32 ∷ 32 ∷ 75 ∷ 32 ∷ 76 ∷ 32 ∷ 77 ∷ 10 ∷ 32 ∷ 32 ∷ 32 ∷ 32 ∷ 32 ∷ 32 ∷ 32 ∷ 78 ∷ 32 ∷ 79 ∷ 32 ∷ 80 ∷ 10 ∷ 32 ∷ 32 ∷ 32 ∷ 32 ∷ 32 ∷ 32 ∷ 32 ∷ 81 ∷ 32 ∷ 82 ∷ 32 ∷ 83 ∷ 10 ∷ []

abbrev pub shown_by : List ℕ → ℕ → ℕ
shown_by s t = pick (ltb t 48) t (get_or s (t - 48) 0)

-- what is shown from the byte i on
abbrev pub shown_from : List ℕ → ℕ → List ℕ
shown_from s i = map (shown_by s) (drop i unfolded)

pub drawn : (s : List ℕ) → shown_from s 0 ≡ drawing s
unfolding drawing
drawn s = refl

pub drawn-length : (s : List ℕ) → length (drawing s) ≡ 159
unfolding drawing
drawn-length s = refl

pub stickers-under : Under 102 unfolded
stickers-under = in_range-under 102 unfolded refl

-- one byte of the drawing, and the rest behind it
pub draw-next : (s d : List ℕ) (i : ℕ) → i < 159 → i < length d → over (set d i (shown_by s (get_or unfolded i 0))) (i + 1) (shown_from s (i + 1)) ≡ over d i (shown_from s i)
draw-next s d i h l = over-cons d i (shown_by s (get_or unfolded i 0)) (shown_from s (i + 1)) l ∙ ap (λ (t : List ℕ). over d i (map (shown_by s) t)) (sym (next unfolded i h))
