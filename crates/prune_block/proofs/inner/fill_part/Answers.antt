-- `prune_block::inner::fill_part` meets its contract. Assumes nothing.
use Rattle.std.proofs.Common.{List, ℕ}
use Rattle.move_row.specs.Tables.{number, table_at, columns}
use Rattle.pair_table.specs.Answers.{Built, Outcome}
use Rattle.pruning_table.specs.Check.{prune_number, first_of, second_of, rows}
use Rattle.pruning_table.proofs.Filling.{part-fills}
use Rattle.pruning_table.proofs.Parts.{Spot, prune_lt, prune_ge}
use Rattle.prune_block.proofs.inner.fill_part.Goals.{After-begins-at}
use Rattle.prune_block.proofs.inner.fill_part.Goals as goal

-- the numbers that the code has found for table t
spot : (c : After-begins-at) →
    Spot (prune_number c.args.t) (number c.first-a.result) (number c.second-b.result) c.columns-k.result c.rows-n1.result c.rows-n2.result c.move_begins-at1.result
    c.move_begins-at2.result c.begins-at.result
spot c =
    record {
      below = prune_lt c.args.t;
      above = prune_ge c.args.t;
      first = c.first-a.ensures;
      second = c.second-b.ensures;
      columns-are = c.columns-k.ensures;
      rows1 = c.rows-n1.ensures;
      rows2 = c.rows-n2.ensures;
      at1 = c.move_begins-at1.ensures;
      at2 = c.move_begins-at2.ensures;
      at = c.begins-at.ensures;
    }

-- what the builder of table t answers, at those numbers
counted : {t a b k n1 n2 i j p : ℕ} → Spot t a b k n1 n2 i j p → (xs ys tab tab' : List ℕ) (r : Built)
    → Outcome xs ys (rows (first_of t)) (rows (second_of t)) (columns (table_at (first_of t))) tab tab' r → Outcome xs ys n1 n2 k tab tab' r
counted s xs ys tab tab' r o = rw (s.rows1, s.rows2, s.columns-are, s.first, s.second) o

pub returns : goal.returns
returns c =
    let b = c.get_table in
    let s = spot (goal.at.returns c).After-begins-at in
    let d = part-fills s c.args.moves.now c.args.prunes.now c.requires.0 c.requires.1 b.new.table b.auto.table b.result (counted s _ _ _ _ _ b.ensures) in
    record { refilled = d.0; decides = rw c.is_err.ensures.value d.1 }
