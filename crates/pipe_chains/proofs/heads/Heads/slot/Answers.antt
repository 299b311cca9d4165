use Rattle.std.proofs.Common.{rules}
use Rattle.pipe_chains.specs.Heads.{slot_in}
use Rattle.pipe_chains.proofs.heads.Heads.slot.Goals as goal

pub returns : goal.returns
unfolding slot_in
returns c = search rules
