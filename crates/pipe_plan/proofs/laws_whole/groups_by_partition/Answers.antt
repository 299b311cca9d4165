use Rattle.pipe_plan.proofs.ByPartition.{answers-held, groups-held, partition-alike}
use Rattle.pipe_plan.proofs.laws_whole.groups_by_partition.Goals as goal

pub returns-clause-rows : goal.returns-clause-rows
returns-clause-rows c = λ r journals p limits shut lt whole. partition-alike r journals p limits.workers limits.buffer shut lt whole

pub returns-clause-groups : goal.returns-clause-groups
returns-clause-groups c = λ r journals limits shut unordered whole. groups-held r journals limits.workers limits.partitions limits.buffer shut unordered whole

pub returns-clause-answers : goal.returns-clause-answers
returns-clause-answers c = λ r journals limits shut unordered whole. answers-held r journals limits.workers limits.partitions limits.buffer shut unordered whole
