use Rattle.std.proofs.Common.{rules}
use Rattle.pipe_writer.proofs.PassSteps.{learns}
use Rattle.pipe_writer.proofs.Steps.{receives}
use Rattle.pipe_writer.proofs.receiving.Receiving.take_now.Goals as goal

pub try_recv_as-requires-clause-rule : goal.try_recv_as-requires-clause-rule
try_recv_as-requires-clause-rule g c = (receives _ _ (search rules) (search rules), learns _ _)
