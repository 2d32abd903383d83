-- `scramble::move_to_str` meets its contract: the text of a list of one is its word. Assumes nothing.
use mathlib.Core.Path.{ap, ◌∙◌}
use mathlib.Core.List.{List, [], ◌∷◌}
use Prim.Native.Nat.{ℕ}
use Rattle.words.specs.Answers.{written_text, written_room}
use Rattle.words.proofs.Text.{text-one}
use Rattle.scramble.proofs.move_to_str.Goals as goal

pub returns : goal.returns
returns c =
    let m = c.args.m in
    let d = c.args.text.now in
    let e = c.scramble_to_str.ensures in record { value = e.value ∙ ap (λ (l : List ℕ). written_text (m ∷ []) l d) (text-one m); text_after = e.text_after ∙ ap (λ (l : List ℕ). written_room (m ∷ []) l d) (text-one m) }
