use Rattle.pipe_model.proofs.CountFacts.{alike-permutation}
use Rattle.pipe_model.proofs.MovedFacts.{rows-moved}
use Rattle.pipe_model.proofs.laws.counts_and_orders.Goals as goal

pub returns : goal.returns
returns c = λ rs others. (rows-moved rs others, alike-permutation rs others)
