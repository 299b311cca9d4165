use Rattle.std.proofs.Common.{subst}
use Rattle.pipe_spill.specs.Store.{HasHeld}
use Rattle.pipe_global.specs.Partition.{PartitionSeen}
use Rattle.pipe_global.proofs.contents.Contents.journal.Goals as goal

pub returns-clause-tells_all : goal.returns-clause-tells_all
returns-clause-tells_all g c =
    subst (λ (s : PartitionSeen). HasHeld s.store.told s.store.held) c.self.view_is (g.S.SpillStore.tells_all c.self.inside.store)
