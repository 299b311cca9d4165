use Rattle.std.proofs.Common.{rules}
use Rattle.pipe_writer.proofs.PassSteps.{joins}
use Rattle.pipe_writer.proofs.receiving.Receiving.join.Goals as goal

pub absorb-requires-clause-rule : goal.absorb-requires-clause-rule
absorb-requires-clause-rule g = joins _ _ _ _ (search rules)
