use Rattle.pipe_workers.proofs.Positions.{passed, position-is}
use Rattle.pipe_workers.proofs.laws.turns_of_a_worker.Goals as goal

pub returns-clause-own : goal.returns-clause-own
returns-clause-own c = position-is

pub returns-clause-others : goal.returns-clause-others
returns-clause-others c = passed
