use Rattle.pipe_model.proofs.PartitionFacts.{answers-joined, groups-alone, groups-joined}
use Rattle.pipe_model.proofs.group_laws.groups_by_partition.Goals as goal

pub returns-clause-joined : goal.returns-clause-joined
returns-clause-joined c = groups-joined

pub returns-clause-alone : goal.returns-clause-alone
returns-clause-alone c = groups-alone

pub returns-clause-rows : goal.returns-clause-rows
returns-clause-rows c = answers-joined
