use Rattle.pipe_sinks.proofs.KeptFacts.{parts-keep}
use Rattle.pipe_sinks.proofs.laws.what_parts_keep.Goals as goal

pub returns : goal.returns
returns c = λ slice lists. parts-keep slice lists
