-- The constants of table 5 are its true entries. Assumes nothing.
use mathlib.Core.Path.{◌≡◌, refl}
use Rattle.base.specs.Lists.{range}
use Rattle.base.specs.Perm.{less, bump, perm_of}
use Rattle.cubie.specs.Cube.{product, solved_cube, quarter_turns, power, move_of}
use Rattle.move_table.specs.Constants.{e_ep_table}
use Rattle.move_row.specs.Tables.{table_at, true_entry, true_row, rows_from, true_table}

-- "one computed test proves each is the coordinate after its move"
pub e-ep-constants : e_ep_table ≡ true_table (table_at 5)
unfolding e_ep_table true_table rows_from true_row true_entry move_of power product quarter_turns solved_cube perm_of bump less range
e-ep-constants = refl
