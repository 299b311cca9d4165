use Rattle.lavzimo_shown.proofs.PartitionLaws.{shown-same}
use Rattle.lavzimo_shown.proofs.laws.shown_answers_have_no_partitions.Goals as goal

pub returns : goal.returns
returns c = shown-same
