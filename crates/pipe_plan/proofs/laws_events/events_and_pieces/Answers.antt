use Rattle.pipe_plan.proofs.AllRows.{arrivals-plan}
use Rattle.pipe_plan.proofs.Fronts.{plan-until}
use Rattle.pipe_plan.proofs.laws_events.events_and_pieces.Goals as goal

pub returns-clause-so_far : goal.returns-clause-so_far
returns-clause-so_far c = λ r w p n spills le. plan-until r w p n spills.generic le

pub returns-clause-pieces : goal.returns-clause-pieces
returns-clause-pieces c = arrivals-plan
