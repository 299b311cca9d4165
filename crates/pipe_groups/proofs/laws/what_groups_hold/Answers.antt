use Rattle.pipe_groups.proofs.HoldFacts.{held_at-passing, holds-covered, holds-joined, holds-moved, holds-none, holds-part, holds-row}
use Rattle.pipe_groups.proofs.ShapeFacts.{shape-takes}
use Rattle.pipe_groups.proofs.laws.what_groups_hold.Goals as goal

pub returns-clause-none : goal.returns-clause-none
returns-clause-none c = holds-none

pub returns-clause-row : goal.returns-clause-row
returns-clause-row c = λ s gs rows r shape typed. holds-row s.prototypes gs rows r (shape-takes s r.values shape typed.inputs.of_types)

pub returns-clause-covered : goal.returns-clause-covered
returns-clause-covered c = holds-covered

pub returns-clause-joined : goal.returns-clause-joined
returns-clause-joined c = holds-joined

pub returns-clause-order : goal.returns-clause-order
returns-clause-order c = holds-moved

pub returns-clause-part : goal.returns-clause-part
returns-clause-part c = λ prototypes test. holds-part test prototypes

pub returns-clause-filtered : goal.returns-clause-filtered
returns-clause-filtered c = held_at-passing
