use Rattle.std.proofs.Common.{◌∙◌, ap, map, refl}
use Rattle.pipe_run.specs.Fed.{FedSeen}
use Rattle.pipe_run.proofs.Endings.{frames-given_up}
use Rattle.pipe_run.proofs.FeedEnds.{whole-back}
use Rattle.pipe_run.proofs.run.GenericRun.into_stores.Goals as goal

pub returns-clause-frames : goal.returns-clause-frames
returns-clause-frames g c = frames-given_up c.self.inside.begun (map (λ m. m.value) c.self.inside.chunks.items) (map (λ p. p.journal) c.self.inside.closed.items) (map (λ p. p.store) c.self.inside.closed.items) c.args.self c.self.view_is
    (map (λ s. record { held = g.S.SpillStore.held s; told = g.S.SpillStore.told s; faults = g.S.SpillStore.faults s; sure = g.S.SpillStore.sure s; path = g.S.SpillStore.path s }) c.stores_of.result.items)
    c.self.inside.closed.items c.self.inside.rested.items c.self.inside.rows c.self.invariant.0 c.stores_of.ensures refl

pub returns-clause-back : goal.returns-clause-back
returns-clause-back g c = whole-back c.self.inside.begun (map (λ m. m.value) c.self.inside.chunks.items) (map (λ p. p.journal) c.self.inside.closed.items) (map (λ p. p.store) c.self.inside.closed.items) c.args.self c.self.view_is
    (map (λ s. record { held = g.S.SpillStore.held s; told = g.S.SpillStore.told s; faults = g.S.SpillStore.faults s; sure = g.S.SpillStore.sure s; path = g.S.SpillStore.path s }) c.stores_of.result.items)
    c.self.inside.closed.items c.self.inside.rested.items c.self.inside.rows c.self.invariant.0 c.stores_of.ensures

pub returns-clause-as_before : goal.returns-clause-as_before
returns-clause-as_before g c = c.stores_of.ensures ∙ ap (λ (s : FedSeen). s.stores) c.self.view_is
