use Rattle.pipe_plan.proofs.AtRow.{rows-split}
use Rattle.pipe_plan.proofs.Dealing.{rows-by-turn}
use Rattle.pipe_plan.proofs.Reaching.{worker-all, worker-yes}
use Rattle.pipe_plan.proofs.laws_turns.rows_of_turns.Goals as goal

pub returns-clause-turns : goal.returns-clause-turns
returns-clause-turns c = rows-by-turn

pub returns-clause-turn : goal.returns-clause-turn
returns-clause-turn c = λ r w i c at turn. worker-yes r w i c at turn

pub returns-clause-all : goal.returns-clause-all
returns-clause-all c = worker-all

pub returns-clause-next : goal.returns-clause-next
returns-clause-next c = rows-split
