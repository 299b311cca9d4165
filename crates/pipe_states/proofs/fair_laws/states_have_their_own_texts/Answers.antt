use Rattle.pipe_states.proofs.TextFacts.{state_once}
use Rattle.pipe_states.proofs.fair_laws.states_have_their_own_texts.Goals as goal

pub returns : goal.returns
returns c = state_once
