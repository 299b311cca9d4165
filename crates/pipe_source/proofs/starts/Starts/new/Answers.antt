use Rattle.std.proofs.Common.{refl}
use Rattle.pipe_source.proofs.StartFacts.{noted-none}
use Rattle.pipe_source.proofs.starts.Starts.new.Goals as goal

pub returns-clause-noted : goal.returns-clause-noted
returns-clause-noted c = λ text at. noted-none text at _ refl c.new.ensures.items
