use Rattle.pipe_asked.proofs.Joining.{joined-chunks}
use Rattle.pipe_asked.proofs.laws.what_a_group_source_gives.Goals as goal

pub returns : goal.returns
returns c = λ q rs partitions some. joined-chunks q rs partitions some
