use Rattle.pipe_summary.proofs.laws.states_of_a_summary.Goals as goal
use Rattle.pipe_summary.proofs.SumFacts.{sums-end}
use Rattle.pipe_summary.proofs.TextLists.{one_list}

pub returns-clause-states : goal.returns-clause-states
returns-clause-states c = sums-end

pub returns-clause-one_list : goal.returns-clause-one_list
returns-clause-one_list c = λ q s t f g e. one_list q s t f.fair g.fair e
