use Rattle.pipe_summary.proofs.laws.one_frame_is_damaged.Goals as goal
use Rattle.pipe_summary.proofs.TextLists.{none-damaged, one-damaged}

pub returns-clause-one : goal.returns-clause-one
returns-clause-one c = one-damaged

pub returns-clause-none : goal.returns-clause-none
returns-clause-none c = none-damaged
