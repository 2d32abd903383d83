-- The starred examples, by one computed statement. Assumes nothing.
use mathlib.Core.Path.{◌≡◌, refl}
use mathlib.Core.Bool.{true}
use mathlib.Core.List.{List, [], ◌∷◌}
use Rattle.base.specs.Combo.{choose, combo_number}
use Rattle.base.specs.Digits.{digits_of}
use Rattle.base.specs.Lists.{Each, range, same_list}
use Rattle.base.specs.Parity.{put, swaps_from}
use Rattle.base.specs.Perm.{less, same, bump, perm_of}
use Rattle.base.specs.Search.{still, done, and_then, branch, deepen, through, walk, enter, plain}
use Rattle.base.specs.Product.{twisted}
use Rattle.base.proofs.Tests.{and-true, same_list-is}
use Rattle.cubie.specs.Cube.{product, solved_cube, quarter_turns, power, move_of, turn, apply_moves}
use Rattle.cubie.specs.Solvable.{solvable}
use Rattle.stickers.specs.Picture.{paint, picture}
use Rattle.stickers.specs.Reader.{is_color, all_colors, first_from, twist_seen, corner_seen, edge_seen, corner_read, twist_read, edge_read, flip_read, cube_read, plain_refusal, strict_refusal}
use Rattle.stickers.specs.Stickers.{corner_facelet, edge_facelet, corner_color, edge_color, solved_face}
use Rattle.moves.specs.Moves.{is_inverse, is_same_layer, is_available}
use Rattle.phase2_steps.specs.Rules.{solved, nothing, ends_of}
use Rattle.phase1_steps.specs.First.{under}
use Rattle.demands.specs.Plain.{is_end1, is_end2, plain_finish, plain_search}
use Rattle.demands.specs.Examples.{Example, examples, all_as_said}

-- demand 4: "starred ones proved together"
pub starred : all_as_said examples ≡ true
unfolding all_as_said examples same_list range choose combo_number digits_of put swaps_from less same bump perm_of twisted product solved_cube quarter_turns power move_of apply_moves solvable paint picture is_color all_colors first_from twist_seen corner_seen edge_seen corner_read twist_read edge_read flip_read cube_read plain_refusal strict_refusal corner_facelet edge_facelet corner_color edge_color solved_face
starred = refl

as_said : (es : List Example) → all_as_said es ≡ true → Each (λ e. e.asked ≡ e.said) es
unfolding all_as_said
as_said [] h = tt
as_said (e ∷ es) h = let a = and-true (same_list e.asked e.said) (all_as_said es) h in (same_list-is _ _ a.0, as_said es a.1)

-- so each is what the paper says
pub starred-each : Each (λ e. e.asked ≡ e.said) examples
starred-each = as_said examples starred

-- the plain search of the paper's small cubes: solved, limit 0 none and limit 1 both lists empty; after U, limit 1 none and limit 2 phase 1
-- empty, phase 2 U'; after F, limit 2, F' alone
pub small-searches : (plain_search 0 solved_cube ≡ still tt) × (plain_search 1 solved_cube ≡ done (solved ([], [])) tt) × (plain_search 1 (turn solved_cube 0) ≡ done nothing tt) × (plain_search 2 (turn solved_cube 0) ≡ done (solved ([], 2 ∷ [])) tt) × (plain_search 2 (turn solved_cube 12) ≡ done (solved (14 ∷ [], [])) tt)
unfolding plain_search plain_finish is_end1 is_end2 ends_of under plain enter walk through branch and_then deepen is_available is_inverse is_same_layer range choose combo_number less twisted product solved_cube quarter_turns power move_of
small-searches = (refl, refl, refl, refl, refl)
