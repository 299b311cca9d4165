use Rattle.rollup_save.proofs.StateFacts.{state-same, text-same}
use Rattle.rollup_save.proofs.laws.states_over_fewer_columns.Goals as goal

pub returns-clause-state : goal.returns-clause-state
returns-clause-state c = state-same

pub returns-clause-text : goal.returns-clause-text
returns-clause-text c = text-same
