-- `table_check::inner::check_prune_table` meets its contract. Assumes nothing.
use Rattle.move_row.specs.Tables.{number}
use Rattle.pruning_table.specs.Check.{prune_number}
use Rattle.pruning_table.proofs.Parts.{Spot, prune_lt, prune_ge}
use Rattle.table_check.proofs.Parts.{spot-tells}
use Rattle.table_check.proofs.inner.check_prune_table.Goals.{After-begins-p}
use Rattle.table_check.proofs.inner.check_prune_table.Goals as goal

-- the numbers that the code has found for table t
spot : (c : After-begins-p) →
    Spot (prune_number c.args.t) (number c.first-a.result) (number c.second-b.result) c.columns-k.result c.rows-n1.result c.rows-n2.result c.move_begins-i.result
    c.move_begins-j.result c.begins-p.result
spot c =
    record {
      below = prune_lt c.args.t;
      above = prune_ge c.args.t;
      first = c.first-a.ensures;
      second = c.second-b.ensures;
      columns-are = c.columns-k.ensures;
      rows1 = c.rows-n1.ensures;
      rows2 = c.rows-n2.ensures;
      at1 = c.move_begins-i.ensures;
      at2 = c.move_begins-j.ensures;
      at = c.begins-p.ensures;
    }

pub returns : goal.returns
returns c = spot-tells (spot (goal.at.returns c).After-begins-p) c.args.moves.now c.args.prunes.now c.requires c.first_bad.result c.first_bad.ensures
