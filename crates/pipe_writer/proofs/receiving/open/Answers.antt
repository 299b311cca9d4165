use Rattle.pipe_writer.proofs.Steps.{begins}
use Rattle.pipe_writer.proofs.receiving.open.Goals as goal

pub bounded_with-requires-clause-rule : goal.bounded_with-requires-clause-rule
bounded_with-requires-clause-rule g = begins
