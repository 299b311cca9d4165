use Rattle.std.proofs.Common.{◌∙◌, false, List, ap, map, refl}
use Rattle.std.specs.declared.snapshot.Snapshot.{Snapshot}
use Rattle.pipe_columns.specs.declared.data_chunk.DataChunk.{DataChunk}
use Rattle.pipe_aggs.specs.QueryTrees.{query_tree}
use Rattle.pipe_model.specs.Answer.{answer}
use Rattle.pipe_model.specs.Output.{output_schema}
use Rattle.pipe_plan.specs.Run.{StoreSeen}
use Rattle.pipe_run.specs.Fed.{FedSeen}
use Rattle.pipe_run.specs.Setting.{Setting}
use Rattle.pipe_run.proofs.Counted.{calm-same}
use Rattle.pipe_group_by.proofs.Texts.{answer-fits}
use Rattle.pipe_group_by.proofs.Untouched.{left-frames, typed-answered}
use Rattle.pipe_group_by.proofs.typed_run.TypedRun.finish.Goals as goal

pub returns-in-Ok-clause-answered : goal.returns-in-Ok-clause-answered
returns-in-Ok-clause-answered g c =
    let stores : List StoreSeen = map (λ s. record { held = g.S.SpillStore.held s; told = g.S.SpillStore.told s; faults = g.S.SpillStore.faults s; sure = g.S.SpillStore.sure s; path = g.S.SpillStore.path s }) c.self.inside.stores.items in
    let x : Setting = record { query = c.self.inside.query; limits = c.self.inside.limits; actions = map (λ v. v.items) c.self.inside.actions.items; rules = c.self.inside.rules.items; stores = stores } in
    let frame = c.in-Ok.ensures.frame ∙ ap (λ (l : List (Snapshot DataChunk)). answer (map (λ m. m.value) l) (query_tree c.self.inside.query) c.self.inside.limits.partitions) c.deref.ensures.value in
    typed-answered x (map (λ m. m.value) c.self.inside.chunks.items) c.args.self c.self.view_is c.self.invariant.0.begin.fit stores refl c.self.invariant.0.typed c.in-Ok.output frame c.in-Ok.ensures.journals c.in-Ok.ensures.overflow

pub returns-in-Ok-clause-fits : goal.returns-in-Ok-clause-fits
returns-in-Ok-clause-fits g c =
    let frame = c.in-Ok.ensures.frame ∙ ap (λ (l : List (Snapshot DataChunk)). answer (map (λ m. m.value) l) (query_tree c.self.inside.query) c.self.inside.limits.partitions) c.deref.ensures.value in
    answer-fits (map (λ m. m.value) c.self.inside.chunks.items) (query_tree c.self.inside.query) c.self.inside.limits.partitions c.in-Ok.output.frame frame ∙ ap (λ (s : FedSeen). output_schema (query_tree s.setting.query)) c.self.view_is

pub returns-in-Ok-clause-back : goal.returns-in-Ok-clause-back
returns-in-Ok-clause-back g c =
    let stores : List StoreSeen = map (λ s. record { held = g.S.SpillStore.held s; told = g.S.SpillStore.told s; faults = g.S.SpillStore.faults s; sure = g.S.SpillStore.sure s; path = g.S.SpillStore.path s }) c.self.inside.stores.items in
    let x : Setting = record { query = c.self.inside.query; limits = c.self.inside.limits; actions = map (λ v. v.items) c.self.inside.actions.items; rules = c.self.inside.rules.items; stores = stores } in
    left-frames x (map (λ m. m.value) c.self.inside.chunks.items) c.args.self c.self.view_is c.self.invariant.0.begin.fit stores refl false _

pub returns-in-Ok-clause-unfailed : goal.returns-in-Ok-clause-unfailed
returns-in-Ok-clause-unfailed g c =
    let stores : List StoreSeen = map (λ s. record { held = g.S.SpillStore.held s; told = g.S.SpillStore.told s; faults = g.S.SpillStore.faults s; sure = g.S.SpillStore.sure s; path = g.S.SpillStore.path s }) c.self.inside.stores.items in
    calm-same c.args.self.stores stores (ap (λ (s : FedSeen). s.stores) c.self.view_is)

pub returns-clause-back : goal.returns-clause-back
returns-clause-back g c =
    let stores : List StoreSeen = map (λ s. record { held = g.S.SpillStore.held s; told = g.S.SpillStore.told s; faults = g.S.SpillStore.faults s; sure = g.S.SpillStore.sure s; path = g.S.SpillStore.path s }) c.self.inside.stores.items in
    let x : Setting = record { query = c.self.inside.query; limits = c.self.inside.limits; actions = map (λ v. v.items) c.self.inside.actions.items; rules = c.self.inside.rules.items; stores = stores } in
    left-frames x (map (λ m. m.value) c.self.inside.chunks.items) c.args.self c.self.view_is c.self.invariant.0.begin.fit stores refl false _

pub returns-clause-unfailed : goal.returns-clause-unfailed
returns-clause-unfailed g c =
    let stores : List StoreSeen = map (λ s. record { held = g.S.SpillStore.held s; told = g.S.SpillStore.told s; faults = g.S.SpillStore.faults s; sure = g.S.SpillStore.sure s; path = g.S.SpillStore.path s }) c.self.inside.stores.items in
    calm-same c.args.self.stores stores (ap (λ (s : FedSeen). s.stores) c.self.view_is)
