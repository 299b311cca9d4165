use Rattle.pipe_plan.proofs.AllRows.{all-held, answer-held, overflow-held, partition-whole}
use Rattle.pipe_plan.proofs.laws_whole.partition_law.Goals as goal

pub returns-clause-partition : goal.returns-clause-partition
returns-clause-partition c = λ r p journal limits shut whole. partition-whole r p journal limits.buffer shut whole

pub returns-clause-rows : goal.returns-clause-rows
returns-clause-rows c = λ r journals limits shut whole. all-held r journals limits.workers limits.partitions limits.buffer shut whole

pub returns-clause-count : goal.returns-clause-count
returns-clause-count c = λ r journals limits shut whole. overflow-held r journals limits.buffer shut whole

pub returns-clause-answer : goal.returns-clause-answer
returns-clause-answer c = λ r journals n limits shut whole. answer-held r journals n limits.workers limits.partitions limits.buffer shut whole
