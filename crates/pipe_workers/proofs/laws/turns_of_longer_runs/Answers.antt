use Rattle.pipe_workers.proofs.Positions.{ready-longer}
use Rattle.pipe_workers.proofs.laws.turns_of_longer_runs.Goals as goal

pub returns : goal.returns
returns c = ready-longer
