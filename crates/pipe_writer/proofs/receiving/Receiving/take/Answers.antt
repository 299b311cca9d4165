use Rattle.std.proofs.Common.{rules}
use Rattle.pipe_writer.proofs.PassSteps.{learns}
use Rattle.pipe_writer.proofs.Steps.{receives}
use Rattle.pipe_writer.proofs.receiving.Receiving.take.Goals as goal

pub recv_as-requires-clause-rule : goal.recv_as-requires-clause-rule
recv_as-requires-clause-rule g c = (receives _ _ (search rules) (search rules), learns _ _)
