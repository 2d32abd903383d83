-- `scramble::scramble_from_str` meets its contract. Assumes nothing.
use Rattle.std.proofs.Common.{arith, refl, sym, ap, ◌<◌, ◌≤◌, length, Ok}
use Rattle.std.proofs.lemmas.Result.{err_from_is_err_and}
use Rattle.words.specs.Answers.{moves_counted, room_after}
use Rattle.words.specs.Text.{parse}
use Rattle.words.proofs.Answers.{no-moves, no_room, none}
use Rattle.scramble.proofs.Lists.{list-refused, list-taken}
use Rattle.scramble.proofs.scramble_from_str.Goals as goal

pub returns-in_err-n : goal.returns-in_err-n
unfolding moves_counted room_after
returns-in_err-n c =
    let ms = parse c.args.text.now in
    let p = err_from_is_err_and c.from_residual.result c.from_residual.ensures.1 in
    let q = list-refused ms _ (length ms) (sym c.in_err-n.ensures) in
    let n = no-moves ms ms c.args.moves.now q.0 in record { value = rw (p.1, p.2, n, q.1) refl; moves_after = rw n refl }

pub returns-then-moves-n : goal.returns-then-moves-n
unfolding moves_counted room_after
returns-then-moves-n c =
    let ms = parse c.args.text.now in
    let room = c.args.moves.now in
    let is = list-taken ms (length ms) c.in_ok-n.n (sym c.in_ok-n.ensures) in
    let h : length room < length ms = omega (arith, c.if-moves-n.true, is.1) in
    let n = no_room ms ms room is.0 h in record { value = rw n refl; moves_after = rw n refl }

pub put_moves-requires : goal.put_moves-requires
unfolding moves_counted
put_moves-requires c =
    let ms = parse c.args.text.now in
    let is = list-taken ms (length ms) c.in_ok-n.n (sym c.in_ok-n.ensures) in
    (sym is.1, c.if-moves-n.false)

pub returns : goal.returns
unfolding moves_counted room_after
returns c =
    let ms = parse c.args.text.now in
    let room = c.args.moves.now in
    let is = list-taken ms (length ms) c.in_ok-n.n (sym c.in_ok-n.ensures) in
    let h : length ms ≤ length room = omega (arith, c.if-moves-n.false, is.1) in
    let n = none ms ms room is.0 h in record { value = rw n (ap Ok (sym is.1)); moves_after = rw n c.put_moves.ensures }
