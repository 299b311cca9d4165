use Rattle.pipe_plan.proofs.Counting.{within-next, within-none}
use Rattle.pipe_plan.proofs.Replaying.{replay-push}
use Rattle.pipe_plan.proofs.laws_whole.one_event_more.Goals as goal

pub returns-clause-nothing : goal.returns-clause-nothing
returns-clause-nothing c = within-none

pub returns-clause-within : goal.returns-clause-within
returns-clause-within c = within-next

pub returns-clause-replay : goal.returns-clause-replay
returns-clause-replay c = replay-push
