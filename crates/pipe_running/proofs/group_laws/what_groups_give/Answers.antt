use Rattle.pipe_running.proofs.GroupStateFacts.{group-first, group-fits, group-gives, serve-take}
use Rattle.pipe_running.proofs.group_laws.what_groups_give.Goals as goal

pub returns-clause-aggregates : goal.returns-clause-aggregates
returns-clause-aggregates c = group-gives

pub returns-clause-fits : goal.returns-clause-fits
returns-clause-fits c = group-fits

pub returns-clause-first : goal.returns-clause-first
returns-clause-first c = group-first

pub returns-clause-takes : goal.returns-clause-takes
returns-clause-takes c = serve-take
