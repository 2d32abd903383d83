-- `prune_block::inner::fill_all` meets its contract. Assumes nothing.
use Rattle.std.proofs.Common.{arith}
use Rattle.pair_table.proofs.Held.{yes_of, no_of}
use Rattle.pruning_table.proofs.Filling.{four-number, turn-filled, turn-missing, turn-still}
use Rattle.prune_block.proofs.inner.fill_all.Goals.{then-fill_part, else-fill_part}
use Rattle.prune_block.proofs.inner.fill_all.Goals as goal

pub loop-t-preserved : goal.loop-t-preserved
loop-t-preserved c =
    let l = c.loop-t in
    let i = l.t-index in
    let h = c.loop-t-test.true in
    let w = c.fill_part in
    let r = w.ensures.refilled in
    let m = c.args.moves.now in (
      turn-filled m l.prunes w.new.prunes i _ (four-number _ i h) h r l.invariant.0,
      elim c.if-fill_part.branch [
        | then-fill_part u ↦ rw u.missing-is (turn-missing m l.prunes w.new.prunes i _ (four-number _ i h) h r (yes_of w.result w.ensures.decides u.if-fill_part.true))
        | else-fill_part u ↦
            rw u.missing-is (turn-still m l.prunes w.new.prunes i _ (four-number _ i h) h r l.missing l.invariant.1 (no_of w.result w.ensures.decides u.if-fill_part.false))
      ],
    )

pub returns-clause-all_filled : goal.returns-clause-all_filled
returns-clause-all_filled c t h g = c.loop-t.invariant.0 t (omega arith) g
