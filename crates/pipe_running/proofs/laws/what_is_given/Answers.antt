use Rattle.pipe_running.proofs.FitFacts.{given-fits}
use Rattle.pipe_running.proofs.StandFacts.{pair-mean, stands-gives}
use Rattle.pipe_running.proofs.laws.what_is_given.Goals as goal

pub returns-clause-agg : goal.returns-clause-agg
returns-clause-agg c = stands-gives

pub returns-clause-pair : goal.returns-clause-pair
returns-clause-pair c = pair-mean

pub returns-clause-fits : goal.returns-clause-fits
returns-clause-fits c = given-fits
