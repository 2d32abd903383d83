-- `move_tables::get_move_tables` meets its contract: each table stands behind those before it. Assumes nothing.
use mathlib.Core.Path.{refl}
use Rattle.move_table.specs.Layout.{move_block}
use Rattle.move_table.proofs.Block.{table-pasted, block-pasted}
use Rattle.move_table.proofs.Sizes.{sized}
use Rattle.move_tables.proofs.get_move_tables.Goals as goal

pub returns : goal.returns
returns c =
    let s = c.args.block.now in
    let l = c.if-block-ne-MOVES_LEN.false in
    let first = table-pasted s c.fill_part.new.block s c.fill_part.new.block 0 0 39366 0 0 39366 c.fill_part.ensures refl refl refl refl refl in
    let second = table-pasted c.fill_part.new.block c.fill_part-2.new.block c.fill_part.new.block c.fill_part-2.new.block 1 39366 36864 1 39366 36864 c.fill_part-2.ensures refl refl refl refl refl in
    let third = table-pasted c.fill_part-2.new.block c.fill_part-3.new.block c.fill_part-2.new.block c.fill_part-3.new.block 2 76230 8910 2 76230 8910 c.fill_part-3.ensures refl refl refl refl refl in
    let fourth = table-pasted c.fill_part-3.new.block c.fill_part-4.new.block c.fill_part-3.new.block c.fill_part-4.new.block 3 85140 403200 3 85140 403200 c.fill_part-4.ensures refl refl refl refl refl in
    let fifth = table-pasted c.fill_part-4.new.block c.fill_part-5.new.block c.fill_part-4.new.block c.fill_part-5.new.block 4 488340 403200 4 488340 403200 c.fill_part-5.ensures refl refl refl refl refl in
    let sixth = table-pasted c.fill_part-5.new.block c.fill_part-6.new.block c.fill_part-5.new.block c.fill_part-6.new.block 5 891540 240 5 891540 240 c.fill_part-6.ensures refl refl refl refl refl in
    let done = sized 891780 s move_block c.fill_part-6.new.block l (block-pasted s c.fill_part.new.block c.fill_part-2.new.block c.fill_part-3.new.block c.fill_part-4.new.block c.fill_part-5.new.block c.fill_part-6.new.block l first second third fourth fifth sixth) in
    record { value = done.0; block_after = done.1 }
