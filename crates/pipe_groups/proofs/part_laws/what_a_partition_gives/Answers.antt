use Rattle.pipe_groups.proofs.PartsFacts.{part-answer, part-holds, part-placed}
use Rattle.pipe_groups.proofs.part_laws.what_a_partition_gives.Goals as goal

pub returns-clause-holds : goal.returns-clause-holds
returns-clause-holds c = part-holds

pub returns-clause-rows : goal.returns-clause-rows
returns-clause-rows c = part-answer

pub returns-clause-placed : goal.returns-clause-placed
returns-clause-placed c = part-placed
