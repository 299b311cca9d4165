use Rattle.std.proofs.Common.{true, List, ap, map, refl}
use Rattle.pipe_plan.specs.Run.{StoreSeen}
use Rattle.pipe_run.specs.Fed.{FedSeen}
use Rattle.pipe_run.specs.Setting.{Setting}
use Rattle.pipe_run.proofs.Counted.{calm-same}
use Rattle.pipe_group_by.proofs.Untouched.{left-frames}
use Rattle.pipe_group_by.proofs.typed_run.TypedRun.feed.Goals as goal

pub returns-in-Err-clause-back : goal.returns-in-Err-clause-back
returns-in-Err-clause-back g c =
    let stores : List StoreSeen = map (λ s. record { held = g.S.SpillStore.held s; told = g.S.SpillStore.told s; faults = g.S.SpillStore.faults s; sure = g.S.SpillStore.sure s; path = g.S.SpillStore.path s }) c.self.inside.stores.items in
    let x : Setting = record { query = c.self.inside.query; limits = c.self.inside.limits; actions = map (λ v. v.items) c.self.inside.actions.items; rules = c.self.inside.rules.items; stores = stores } in
    left-frames x (map (λ m. m.value) c.self.inside.chunks.items) c.args.self c.self.view_is c.self.invariant.0.begin.fit stores refl true _

pub returns-in-Err-take_in-clause-back : goal.returns-in-Err-take_in-clause-back
returns-in-Err-take_in-clause-back g c =
    let stores : List StoreSeen = map (λ s. record { held = g.S.SpillStore.held s; told = g.S.SpillStore.told s; faults = g.S.SpillStore.faults s; sure = g.S.SpillStore.sure s; path = g.S.SpillStore.path s }) c.self.inside.stores.items in
    let x : Setting = record { query = c.self.inside.query; limits = c.self.inside.limits; actions = map (λ v. v.items) c.self.inside.actions.items; rules = c.self.inside.rules.items; stores = stores } in
    left-frames x (map (λ m. m.value) c.self.inside.chunks.items) c.args.self c.self.view_is c.self.invariant.0.begin.fit stores refl true _

pub returns-in-Err-take_in-clause-cause : goal.returns-in-Err-take_in-clause-cause
returns-in-Err-take_in-clause-cause g c =
    let stores : List StoreSeen = map (λ s. record { held = g.S.SpillStore.held s; told = g.S.SpillStore.told s; faults = g.S.SpillStore.faults s; sure = g.S.SpillStore.sure s; path = g.S.SpillStore.path s }) c.self.inside.stores.items in
    calm-same c.args.self.stores stores (ap (λ (s : FedSeen). s.stores) c.self.view_is)
