use Rattle.memory_states.proofs.OneResult.{result-one}
use Rattle.memory_states.proofs.laws.calls_have_one_result.Goals as goal

pub returns : goal.returns
returns c = result-one
