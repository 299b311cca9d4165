use Rattle.test_partitions.proofs.PlannedFacts.{finish-ended}
use Rattle.test_partitions.proofs.finish.recall_finish.Goals as goal

pub returns : goal.returns
returns g c = finish-ended c.args.closed.now c.args.local.now c.requires.ended c.journal-events.ensures.tells_all c.requires.shape c.requires.groups
