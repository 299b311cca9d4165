use Rattle.pipe_model.proofs.PartitionFacts.{kept-alike}
use Rattle.pipe_model.proofs.group_laws.kept_order_has_no_partitions.Goals as goal

pub returns : goal.returns
returns c = kept-alike
