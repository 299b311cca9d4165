use Rattle.pipe_states.proofs.FairFacts.{saved-fair}
use Rattle.pipe_states.proofs.GivenSaved.{saved-of}
use Rattle.pipe_states.proofs.fair_laws.saved_states_are_fair.Goals as goal

pub returns-clause-of_query : goal.returns-clause-of_query
returns-clause-of_query c = saved-of

pub returns-clause-fair : goal.returns-clause-fair
returns-clause-fair c = saved-fair
