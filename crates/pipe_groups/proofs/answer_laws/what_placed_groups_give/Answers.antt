use Rattle.pipe_groups.proofs.ByPlaceFacts.{held-apart, held-by_place, held-placed}
use Rattle.pipe_groups.proofs.answer_laws.what_placed_groups_give.Goals as goal

pub returns-clause-placed : goal.returns-clause-placed
returns-clause-placed c = held-placed

pub returns-clause-apart : goal.returns-clause-apart
returns-clause-apart c = held-apart

pub returns-clause-answer : goal.returns-clause-answer
returns-clause-answer c = held-by_place
