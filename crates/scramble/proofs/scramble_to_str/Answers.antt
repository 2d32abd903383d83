-- `scramble::scramble_to_str` meets its contract. Assumes nothing.
use Rattle.std.proofs.Common.{refl, sym, ap, ◌∙◌, ◌<◌, ◌≤◌, length, Ok}
use Rattle.std.proofs.lemmas.Result.{err_from_is_err_and}
use borrow.Author.Tests.{leb-true, leb-false}
use Rattle.words.specs.Answers.{room_after}
use Rattle.words.specs.Text.{text_of}
use Rattle.words.proofs.Answers.{no-moves, no_room, none}
use Rattle.scramble.proofs.Lists.{list-refused, list-taken}
use Rattle.scramble.proofs.scramble_to_str.Goals as goal

pub returns-in_err-check_list : goal.returns-in_err-check_list
unfolding room_after
returns-in_err-check_list c =
    let ms = c.args.moves.now in
    let p = err_from_is_err_and c.from_residual.result c.from_residual.ensures.1 in
    let q = list-refused ms _ tt (sym c.in_err-check_list.ensures.value) in
    let n = no-moves ms (text_of ms) c.args.text.now q.0 in record { value = rw (p.1, p.2, n, q.1) refl; text_after = rw n refl }

pub returns-then-not-text_fits : goal.returns-then-not-text_fits
unfolding room_after
returns-then-not-text_fits c =
    let ms = c.args.moves.now in
    let room = c.args.text.now in
    let good = list-taken ms tt tt (sym c.in_ok-check_list.ensures.value) in
    let h : length room < length (text_of ms) = leb-false _ _ (sym c.text_fits.ensures ∙ c.if-not-text_fits.true) in
    let n = no_room ms (text_of ms) room good.0 h in record { value = rw n refl; text_after = rw n refl }

pub put_text-requires : goal.put_text-requires
put_text-requires c = (c.in_ok-check_list.ensures.are_moves, leb-true _ _ (sym c.text_fits.ensures ∙ c.if-not-text_fits.false))

pub returns : goal.returns
unfolding room_after
returns c =
    let ms = c.args.moves.now in
    let room = c.args.text.now in
    let good = list-taken ms tt tt (sym c.in_ok-check_list.ensures.value) in
    let h : length (text_of ms) ≤ length room = leb-true _ _ (sym c.text_fits.ensures ∙ c.if-not-text_fits.false) in
    let n = none ms (text_of ms) room good.0 h in record { value = rw n (ap Ok c.put_text.ensures.value); text_after = rw n c.put_text.ensures.text_after }
