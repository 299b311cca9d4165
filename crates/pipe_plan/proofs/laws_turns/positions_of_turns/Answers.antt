use Rattle.pipe_plan.proofs.Dealing.{turn-at, turn-next, turn-number, turns-after, turns-first}
use Rattle.pipe_plan.proofs.Planning.{picks-yes}
use Rattle.pipe_plan.proofs.laws_turns.positions_of_turns.Goals as goal

pub returns-clause-turn : goal.returns-clause-turn
returns-clause-turn c = turn-at

pub returns-clause-number : goal.returns-clause-number
returns-clause-number c = turn-number

pub returns-clause-next : goal.returns-clause-next
returns-clause-next c = turn-next

pub returns-clause-first : goal.returns-clause-first
returns-clause-first c = turns-first

pub returns-clause-after : goal.returns-clause-after
returns-clause-after c = turns-after

pub returns-clause-picks : goal.returns-clause-picks
returns-clause-picks c = picks-yes
