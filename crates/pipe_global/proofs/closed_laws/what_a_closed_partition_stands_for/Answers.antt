use Rattle.pipe_global.proofs.ClosedFacts.{finish-replayed, own-replayed, stands-replayed}
use Rattle.pipe_global.proofs.closed_laws.what_a_closed_partition_stands_for.Goals as goal

pub returns-clause-rows : goal.returns-clause-rows
returns-clause-rows c = stands-replayed

pub returns-clause-own : goal.returns-clause-own
returns-clause-own c = own-replayed

pub returns-clause-finish : goal.returns-clause-finish
returns-clause-finish c = λ r p s run at all local locals. finish-replayed r p s run at local locals all
