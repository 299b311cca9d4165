use Rattle.std.proofs.Common.{subst}
use Rattle.pipe_global.specs.Finishing.{KeepsRest}
use Rattle.pipe_global.specs.Gathering.{HoldsAllRows}
use Rattle.pipe_global.specs.Partition.{PartitionSeen}
use Rattle.pipe_global.proofs.Finished.{gives-placed}
use Rattle.pipe_global.proofs.closed.ClosedPartition.finish_placed.Goals as goal

pub returns-clause-placed : goal.returns-clause-placed
returns-clause-placed g c =
    gives-placed c.args.self.now c.prepare.new.self c.args.local.now c.prepare.new.local
    (subst (λ (s : PartitionSeen). KeepsRest s c.prepare.new.self) c.self.view_is c.prepare.ensures.kept)
    c.in-Ok-give_placed.placed.frame c.in-Ok-give_placed.placed.firsts
    (subst (λ (s : PartitionSeen). HoldsAllRows s c.prepare.new.self c.args.local.now c.prepare.new.local) c.self.view_is c.in-Ok.ensures.ready)
    c.in-Ok-give_placed.ensures.placed
