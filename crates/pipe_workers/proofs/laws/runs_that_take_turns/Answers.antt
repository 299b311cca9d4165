use Rattle.pipe_workers.proofs.Runs.{takes-turns}
use Rattle.pipe_workers.proofs.laws.runs_that_take_turns.Goals as goal

pub returns : goal.returns
returns c = takes-turns
