use Rattle.pipe_writer.proofs.PassSteps.{makes}
use Rattle.pipe_writer.proofs.receiving.another.Goals as goal

pub another-requires-clause-rule : goal.another-requires-clause-rule
another-requires-clause-rule g c = makes _ _ _ c.requires.receives (rw c.requires.named at c.requires.fields)
