use Rattle.std.proofs.Common.{subst}
use Rattle.pipe_global.specs.Finishing.{KeepsRest}
use Rattle.pipe_global.specs.Gathering.{HoldsAllRows}
use Rattle.pipe_global.specs.Partition.{PartitionSeen}
use Rattle.pipe_global.proofs.Finished.{gives-rows}
use Rattle.pipe_global.proofs.closed.ClosedPartition.finish.Goals as goal

pub returns-clause-frame : goal.returns-clause-frame
returns-clause-frame g c =
    gives-rows c.args.self.now c.prepare.new.self c.args.local.now c.prepare.new.local
    (subst (λ (s : PartitionSeen). KeepsRest s c.prepare.new.self) c.self.view_is c.prepare.ensures.kept)
    c.args.slice.now c.give.new.slice c.in-Ok-give.frame
    (subst (λ (s : PartitionSeen). HoldsAllRows s c.prepare.new.self c.args.local.now c.prepare.new.local) c.self.view_is c.in-Ok.ensures.ready)
    c.in-Ok-give.ensures.frame
