use Rattle.std.proofs.Common.{◌≡◌, ◌∙◌, List, ap, map, sym}
use Rattle.pipe_aggs.proofs.OutputFacts.{map-map}
use Rattle.pipe_plan.specs.declared.limits.Limits.{Limits}
use Rattle.pipe_plan.specs.Run.{StoreSeen}
use Rattle.pipe_run.specs.Setting.{Setting}
use Rattle.pipe_run.proofs.begin.begun_of.Goals as goal

pub returns : goal.returns
returns g c =
    let seen : g.row.S.Denot → StoreSeen = λ s. record { held = g.S.SpillStore.held s; told = g.S.SpillStore.told s; faults = g.S.SpillStore.faults s; sure = g.S.SpillStore.sure s; path = g.S.SpillStore.path s } in
    ap {B = Setting} (λ (l : Limits). record { query = c.args.query; limits = l; actions = map (λ v. v.items) c.args.actions.items; rules = c.args.rules.items; stores = map (λ m. seen m.value) c.args.former.items }) c.copy_of.ensures
    ∙ ap {B = Setting} (λ (l : List StoreSeen). record { query = c.args.query; limits = c.args.limits.now; actions = map (λ v. v.items) c.args.actions.items; rules = c.args.rules.items; stores = l }) (sym (map-map seen (λ m. m.value) c.args.former.items))
