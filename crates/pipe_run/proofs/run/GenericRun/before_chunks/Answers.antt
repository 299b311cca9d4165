use Rattle.std.proofs.Common.{rules, ◌≡◌, ◌∙◌, ◌<◌, ◌≤◌, ◌^◌, [], ap, arith, length, map, subst, sym, true, vec_capacity, vec_len}
use Rattle.std.specs.List.{All}
use Rattle.std.proofs.lemmas.List.{length-map}
use Rattle.std.proofs.lemmas.List.Elements.{All-map}
use Rattle.pipe_aggs.specs.QueryTrees.{query_tree}
use Rattle.pipe_model.specs.Groupable.{IsGroupable}
use Rattle.pipe_plan.specs.Run.{StoreSeen}
use Rattle.pipe_run.specs.Fed.{AreCounted, AreWholePartitions, IsFedRun}
use Rattle.pipe_run.specs.Setting.{run_over, Setting}
use Rattle.pipe_run.proofs.Openings.{begun-fed, none-before}
use Rattle.pipe_run.proofs.run.GenericRun.before_chunks.Goals as goal

pub opened-requires-clause-former : goal.opened-requires-clause-former
opened-requires-clause-former g c =
    let seen : g.row.S.Denot → StoreSeen = λ s. record { held = g.S.SpillStore.held s; told = g.S.SpillStore.told s; faults = g.S.SpillStore.faults s; sure = g.S.SpillStore.sure s; path = g.S.SpillStore.path s } in
    let x : Setting = record { query = c.args.query; limits = c.args.limits.now; actions = map (λ v. v.items) c.args.actions.items; rules = c.args.rules.items; stores = map seen c.args.stores.items } in
    let is : c.begun_of-begun.result ≡ x = c.begun_of-begun.ensures ∙ ap {B = Setting} (λ l. record { query = c.args.query; limits = c.args.limits.now; actions = map (λ v. v.items) c.args.actions.items; rules = c.args.rules.items; stores = map seen l }) (c.in-Ok.ensures.former ∙ c.deref.ensures.value) in
    subst (λ (y : Setting). All (λ (s : StoreSeen). s.held < 2 ^ 63) y.stores) (sym is) (All-map (λ (s : StoreSeen). s.held < 2 ^ 63) seen c.args.stores.items c.requires.former)

pub invariant_of-result : goal.invariant_of-result
invariant_of-result g c =
    let seen : g.row.S.Denot → StoreSeen = λ s. record { held = g.S.SpillStore.held s; told = g.S.SpillStore.told s; faults = g.S.SpillStore.faults s; sure = g.S.SpillStore.sure s; path = g.S.SpillStore.path s } in
    let x : Setting = record { query = c.args.query; limits = c.args.limits.now; actions = map (λ v. v.items) c.args.actions.items; rules = c.args.rules.items; stores = map seen c.args.stores.items } in
    let is : c.begun_of-begun.result ≡ x = c.begun_of-begun.ensures ∙ ap {B = Setting} (λ l. record { query = c.args.query; limits = c.args.limits.now; actions = map (λ v. v.items) c.args.actions.items; rules = c.args.rules.items; stores = map seen l }) (c.in-Ok.ensures.former ∙ c.deref.ensures.value) in
    let closed = c.in-Ok-opened.closed.items in
    let rested = c.in-Ok.memory.rested.items in
    let groupable : IsGroupable (query_tree c.args.query) = search rules in
    let many : length c.args.stores.items ≡ c.args.limits.now.partitions = search rules in
    let count : length x.stores ≡ c.args.limits.now.partitions = length-map c.args.stores.items seen ∙ many in
    let former : All (λ (s : StoreSeen). s.held < 2 ^ 63) x.stores = All-map (λ (s : StoreSeen). s.held < 2 ^ 63) seen c.args.stores.items c.requires.former in
    let whole = subst (λ (y : Setting). AreWholePartitions (run_over y true []) closed) is c.in-Ok-opened.ensures.whole in
    let unused = c.in-Ok.ensures.unused in
    let workers : length rested ≡ c.args.limits.now.workers = search rules in
    let none : map (λ m. m.value) c.new.result.items ≡ [] = search rules in
    let counted : length closed ≡ c.args.limits.now.partitions = whole.count in
    let empty : vec_len c.in-Ok.memory.room ≡ 0 = c.in-Ok.ensures.none in
    let room : vec_len c.in-Ok-opened.closed ≤ vec_capacity c.in-Ok.memory.room = omega (arith, counted, many, c.in-Ok.ensures.room) in (
      subst (λ (y : Setting). IsFedRun y (map (λ m. m.value) c.new.result.items) closed rested 0) (sym is)
          (subst (λ l. IsFedRun x l closed rested 0) (sym none) (begun-fed x closed rested c.requires.generic c.requires.few c.requires.limits groupable count former whole workers unused)),
      empty,
      room,
    )

pub returns-in-Ok-opened-clause-setting : goal.returns-in-Ok-opened-clause-setting
returns-in-Ok-opened-clause-setting g c =
    let seen : g.row.S.Denot → StoreSeen = λ s. record { held = g.S.SpillStore.held s; told = g.S.SpillStore.told s; faults = g.S.SpillStore.faults s; sure = g.S.SpillStore.sure s; path = g.S.SpillStore.path s } in
    c.begun_of-begun.ensures ∙ ap {B = Setting} (λ l. record { query = c.args.query; limits = c.args.limits.now; actions = map (λ v. v.items) c.args.actions.items; rules = c.args.rules.items; stores = map seen l }) (c.in-Ok.ensures.former ∙ c.deref.ensures.value)

pub returns-in-Ok-opened-clause-counted : goal.returns-in-Ok-opened-clause-counted
returns-in-Ok-opened-clause-counted g c =
    let seen : g.row.S.Denot → StoreSeen = λ s. record { held = g.S.SpillStore.held s; told = g.S.SpillStore.told s; faults = g.S.SpillStore.faults s; sure = g.S.SpillStore.sure s; path = g.S.SpillStore.path s } in
    let x : Setting = record { query = c.args.query; limits = c.args.limits.now; actions = map (λ v. v.items) c.args.actions.items; rules = c.args.rules.items; stores = map seen c.args.stores.items } in
    let is : c.begun_of-begun.result ≡ x = c.begun_of-begun.ensures ∙ ap {B = Setting} (λ l. record { query = c.args.query; limits = c.args.limits.now; actions = map (λ v. v.items) c.args.actions.items; rules = c.args.rules.items; stores = map seen l }) (c.in-Ok.ensures.former ∙ c.deref.ensures.value) in
    let closed = c.in-Ok-opened.closed.items in
    let many : length c.args.stores.items ≡ c.args.limits.now.partitions = search rules in
    let whole = subst (λ (y : Setting). AreWholePartitions (run_over y true []) closed) is c.in-Ok-opened.ensures.whole in
    let counted = subst (λ (y : Setting). AreCounted (run_over y true []) closed) is c.in-Ok-opened.ensures.counted in
    none-before x closed (whole.count ∙ sym many ∙ sym (length-map c.args.stores.items seen)) counted
