use Rattle.pipe_model.proofs.AggFacts.{agg-moved}
use Rattle.pipe_model.proofs.laws.order_of_entries.Goals as goal

pub returns : goal.returns
returns c = agg-moved
