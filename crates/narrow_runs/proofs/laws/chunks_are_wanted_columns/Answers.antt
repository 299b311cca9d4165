use Rattle.narrow_runs.proofs.WidenedFacts.{widened-fit, widened-wanted}
use Rattle.narrow_runs.proofs.laws.chunks_are_wanted_columns.Goals as goal

pub returns-clause-wanted : goal.returns-clause-wanted
returns-clause-wanted c = widened-wanted

pub returns-clause-fit : goal.returns-clause-fit
returns-clause-fit c = widened-fit
