use Rattle.pipe_states.proofs.GivenStates.{regrouped-states-of}
use Rattle.pipe_states.proofs.MergedFair.{regrouped-few, regrouped_rows-fair}
use Rattle.pipe_states.proofs.fair_laws.regrouped_rows_are_fair.Goals as goal

pub returns-clause-of_query : goal.returns-clause-of_query
returns-clause-of_query c = regrouped-states-of

pub returns-clause-fair : goal.returns-clause-fair
returns-clause-fair c = regrouped_rows-fair

pub returns-clause-few : goal.returns-clause-few
returns-clause-few c = regrouped-few
