-- `stickers::inner::all_colors` meets its contract. Assumes nothing.
use mathlib.Core.Path.{◌≡◌, refl, ap, ◌∙◌}
use mathlib.Core.Bool.{Bool, ◌&&◌}
use mathlib.Core.List.{List, [], ◌∷◌}
use Prim.Native.Nat.{ℕ}
use Rattle.std.proofs.Common.{rules, tests}
use Rattle.std.proofs.lemmas.Iterator.{YieldsList-from_slice}
use Rattle.std.proofs.lemmas.Iterator.Search.{all_from_yields_List}
use Rattle.std.specs.List.{list_all}
use Rattle.stickers.specs.Reader.{is_color, all_colors}
use Rattle.stickers.proofs.inner.all_colors.Goals as goal

all-colors : (xs : List ℕ) → list_all is_color xs ≡ all_colors xs
unfolding all_colors
all-colors [] = refl
all-colors (x ∷ xs) = ap (λ (b : Bool). is_color x && b) (all-colors xs)

pub returns : goal.returns
returns c =
    let s = c.args.s.now in
    all_from_yields_List is_color _ _ c.all.result c.all.ensures.ran (YieldsList-from_slice s cc) (λ x b q k. search (rules, tests)) ∙ all-colors s
