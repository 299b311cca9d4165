use Rattle.std.proofs.Common.{refl}
use Rattle.std.specs.Fmt.{digits}
use Rattle.memory_states.proofs.worked.calls_that_ask.Goals as goal

pub returns-clause-files : goal.returns-clause-files
unfolding digits
returns-clause-files c = refl
