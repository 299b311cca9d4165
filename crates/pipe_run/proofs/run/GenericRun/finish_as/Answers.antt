use Rattle.std.proofs.Common.{map}
use Rattle.pipe_run.proofs.Endings.{early-left}
use Rattle.pipe_run.proofs.run.GenericRun.finish_as.Goals as goal

pub returns-in_default-clause-back : goal.returns-in_default-clause-back
returns-in_default-clause-back g c =
    early-left c.self.inside.begun (map (λ m. m.value) c.self.inside.chunks.items) (map (λ p. p.journal) c.self.inside.closed.items) (map (λ p. p.store) c.self.inside.closed.items) c.args.self c.self.view_is
    (map (λ s. record { held = g.S.SpillStore.held s; told = g.S.SpillStore.told s; faults = g.S.SpillStore.faults s; sure = g.S.SpillStore.sure s; path = g.S.SpillStore.path s }) c.stores_of.result.items)
    c.self.inside.closed.items c.self.inside.rested.items c.self.inside.rows c.self.invariant.0 c.stores_of.ensures
