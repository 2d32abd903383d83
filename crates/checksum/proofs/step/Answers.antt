-- `checksum::step` meets its contract. Assumes nothing.
use Rattle.std.proofs.Common.{◌∙◌}
use Rattle.checksum.proofs.Turns.{step_is}
use Rattle.checksum.proofs.step.Goals as goal

pub returns : goal.returns
returns c = c.wrapping_add_u64.ensures.value ∙ step_is c.args.sum c.args.byte
