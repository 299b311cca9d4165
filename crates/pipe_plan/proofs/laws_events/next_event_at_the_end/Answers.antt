use Rattle.pipe_plan.proofs.AtEnd.{plan-last, plan-none, rest-arrives, rest-next}
use Rattle.pipe_plan.proofs.Fronts.{plan-open}
use Rattle.pipe_plan.proofs.laws_events.next_event_at_the_end.Goals as goal

pub returns-clause-event : goal.returns-clause-event
returns-clause-event c = λ r w p spills shut any. rest-next r w p spills.limits.buffer spills.generic shut any

pub returns-clause-piece : goal.returns-clause-piece
returns-clause-piece c = λ r w p spills shut any. rest-arrives r w p spills.limits.buffer spills.generic shut any

pub returns-clause-last : goal.returns-clause-last
returns-clause-last c = λ r w p spills shut any. plan-last r w p spills.limits.buffer spills.generic shut any

pub returns-clause-none : goal.returns-clause-none
returns-clause-none c = λ r w p spills none. plan-none r w p spills.limits.buffer spills.generic none

pub returns-clause-open_run : goal.returns-clause-open_run
returns-clause-open_run c = λ r w p spills opened. plan-open r w p opened spills.generic
