use Rattle.std.proofs.Common.{subst}
use Rattle.pipe_global.specs.Finishing.{KeepsRest}
use Rattle.pipe_global.specs.Gathering.{HoldsAllRows}
use Rattle.pipe_global.specs.Partition.{PartitionSeen}
use Rattle.pipe_global.proofs.Finished.{gives-pieces}
use Rattle.pipe_global.proofs.closed.ClosedPartition.finish_pieces.Goals as goal

pub returns-clause-pieces : goal.returns-clause-pieces
returns-clause-pieces g c =
    gives-pieces c.args.self.now c.prepare.new.self c.args.local.now c.prepare.new.local
    (subst (λ (s : PartitionSeen). KeepsRest s c.prepare.new.self) c.self.view_is c.prepare.ensures.kept)
    c.args.slice.now c.give_pieces.new.slice c.in-Ok-give_pieces.pieces
    (subst (λ (s : PartitionSeen). HoldsAllRows s c.prepare.new.self c.args.local.now c.prepare.new.local) c.self.view_is c.in-Ok.ensures.ready)
    c.in-Ok-give_pieces.ensures.pieces
