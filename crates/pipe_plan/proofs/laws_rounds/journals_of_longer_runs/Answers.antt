use Rattle.pipe_plan.proofs.Fronts.{replay-on, within-on}
use Rattle.pipe_plan.proofs.laws_rounds.journals_of_longer_runs.Goals as goal

pub returns-clause-within : goal.returns-clause-within
returns-clause-within c = within-on

pub returns-clause-replay : goal.returns-clause-replay
returns-clause-replay c = replay-on
