use Rattle.pipe_model.proofs.MergeFacts.{agg-append}
use Rattle.pipe_model.proofs.PlaceFacts.{first-append, last-append}
use Rattle.pipe_model.proofs.laws.aggregates_of_joined_lists.Goals as goal

pub returns-clause-values : goal.returns-clause-values
returns-clause-values c = agg-append

pub returns-clause-first : goal.returns-clause-first
returns-clause-first c = first-append

pub returns-clause-last : goal.returns-clause-last
returns-clause-last c = last-append
