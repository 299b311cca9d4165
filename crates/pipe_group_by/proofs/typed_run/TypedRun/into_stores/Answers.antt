use Rattle.std.proofs.Common.{List, map, refl}
use Rattle.pipe_plan.specs.Run.{StoreSeen}
use Rattle.pipe_run.specs.Setting.{Setting}
use Rattle.pipe_group_by.proofs.Untouched.{given-back, given-frames}
use Rattle.pipe_group_by.proofs.typed_run.TypedRun.into_stores.Goals as goal

pub returns-clause-frames : goal.returns-clause-frames
returns-clause-frames g c =
    let stores : List StoreSeen = map (λ s. record { held = g.S.SpillStore.held s; told = g.S.SpillStore.told s; faults = g.S.SpillStore.faults s; sure = g.S.SpillStore.sure s; path = g.S.SpillStore.path s }) c.self.inside.stores.items in
    let x : Setting = record { query = c.self.inside.query; limits = c.self.inside.limits; actions = map (λ v. v.items) c.self.inside.actions.items; rules = c.self.inside.rules.items; stores = stores } in
    given-frames x (map (λ m. m.value) c.self.inside.chunks.items) c.args.self c.self.view_is c.self.invariant.0.begin.fit stores refl

pub returns-clause-back : goal.returns-clause-back
returns-clause-back g c =
    let stores : List StoreSeen = map (λ s. record { held = g.S.SpillStore.held s; told = g.S.SpillStore.told s; faults = g.S.SpillStore.faults s; sure = g.S.SpillStore.sure s; path = g.S.SpillStore.path s }) c.self.inside.stores.items in
    let x : Setting = record { query = c.self.inside.query; limits = c.self.inside.limits; actions = map (λ v. v.items) c.self.inside.actions.items; rules = c.self.inside.rules.items; stores = stores } in
    given-back x (map (λ m. m.value) c.self.inside.chunks.items) c.args.self c.self.view_is c.self.invariant.0.begin.fit stores refl
