use Rattle.std.proofs.Common.{refl}
use Rattle.std.specs.Fmt.{digits}
use Rattle.memory_answer.proofs.worked.faults_told.Goals as goal

pub returns-clause-width : goal.returns-clause-width
unfolding digits
returns-clause-width c = refl
