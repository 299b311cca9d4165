use Rattle.pipe_model.proofs.RowFacts.{agg-alike}
use Rattle.pipe_model.proofs.laws.same_counts_same_aggregates.Goals as goal

pub returns : goal.returns
returns c = agg-alike
