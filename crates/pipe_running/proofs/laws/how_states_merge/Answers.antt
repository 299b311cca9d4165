use Rattle.pipe_running.proofs.MergeFacts.{joined-associate, joined-commute, joined-fresh}
use Rattle.pipe_running.proofs.laws.how_states_merge.Goals as goal

pub returns-clause-commute : goal.returns-clause-commute
returns-clause-commute c = joined-commute

pub returns-clause-associate : goal.returns-clause-associate
returns-clause-associate c = joined-associate

pub returns-clause-fresh : goal.returns-clause-fresh
returns-clause-fresh c = joined-fresh
