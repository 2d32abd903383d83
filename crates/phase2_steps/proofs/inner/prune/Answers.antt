-- `phase2_steps::inner::prune` meets its contract: the entries of the two tables, and the larger of them. Assumes nothing.
use Rattle.std.proofs.Common.{sym, ap, ◌∙◌}
use lib.Dec.{ltb}
use Rattle.phase2_steps.proofs.Facts.{cut2-is}
use Rattle.phase2_steps.proofs.inner.prune.Goals as goal

pub returns : goal.returns
returns c = ap (ltb _) c.max.ensures ∙ sym (cut2-is c.args.prunes.now _ _ c.requires.below)
