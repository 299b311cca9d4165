use Rattle.pipe_running.proofs.GroupRunFacts.{group-run}
use Rattle.pipe_running.proofs.GroupStateFacts.{group-fed, group-fresh, group-holds, group-joined, group-moved}
use Rattle.pipe_running.proofs.group_laws.what_groups_keep.Goals as goal

pub returns-clause-fresh : goal.returns-clause-fresh
returns-clause-fresh c = group-fresh

pub returns-clause-row : goal.returns-clause-row
returns-clause-row c = group-fed

pub returns-clause-run : goal.returns-clause-run
returns-clause-run c = group-run

pub returns-clause-joined : goal.returns-clause-joined
returns-clause-joined c = group-joined

pub returns-clause-order : goal.returns-clause-order
returns-clause-order c = group-moved

pub returns-clause-counted : goal.returns-clause-counted
returns-clause-counted c = group-holds
