use Rattle.pipe_workers.proofs.Bounds.{few-keys, few-rows}
use Rattle.pipe_workers.proofs.laws.bounds_between_turns.Goals as goal

pub returns-clause-keys : goal.returns-clause-keys
returns-clause-keys c = few-keys

pub returns-clause-rows : goal.returns-clause-rows
returns-clause-rows c = few-rows
