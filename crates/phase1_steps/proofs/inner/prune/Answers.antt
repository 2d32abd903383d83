-- `phase1_steps::inner::prune` meets its contract: the entries of the two tables, and the larger of them. Assumes nothing.
use Rattle.std.proofs.Common.{sym, ap, ◌∙◌}
use lib.Dec.{ltb}
use Rattle.phase1_steps.proofs.Found.{cut1-is}
use Rattle.phase1_steps.proofs.inner.prune.Goals as goal

pub returns : goal.returns
returns c = ap (ltb _) c.max.ensures ∙ sym (cut1-is c.args.prunes.now _ _ c.requires.below)
