use Rattle.std.proofs.Common.{◌≡◌, ◌∙◌, ◌++◌, List, ap, arith, map, refl, sym, subst, vec_len}
use Rattle.pipe_columns.specs.declared.data_chunk.DataChunk.{DataChunk}
use Rattle.pipe_aggs.specs.Faults.{first_fault}
use Rattle.pipe_aggs.specs.QueryTrees.{query_tree}
use Rattle.pipe_model.specs.Output.{key_types}
use Rattle.pipe_plan.specs.Run.{StoreSeen}
use Rattle.pipe_run.specs.Refusals.{IsBeginCause, suits_keys}
use Rattle.pipe_run.specs.Setting.{Setting}
use Rattle.pipe_run.specs.WholeRun.{CanBegin, CanRunOver}
use Rattle.pipe_run.proofs.Counted.{calm-same}
use Rattle.pipe_run.proofs.RunEnds.{begin-ends, finish-ends, fits-setting}
use Rattle.pipe_group_by.proofs.AtOnce.{fed-can, typed-refused}
use Rattle.pipe_group_by.proofs.Texts.{holds-if-err, holds-on-ok}
use Rattle.pipe_group_by.proofs.typed_whole.run_typed.Goals as goal

pub returns-in-Err : goal.returns-in-Err
returns-in-Err g c =
    let S = g.row.S.Denot in
    let seen : S → StoreSeen = λ s. record { held = g.S.SpillStore.held s; told = g.S.SpillStore.told s; faults = g.S.SpillStore.faults s; sure = g.S.SpillStore.sure s; path = g.S.SpillStore.path s } in
    let x : Setting = record { query = c.args.query.now; limits = c.args.limits.now; actions = map (λ v. v.items) c.args.actions.items; rules = c.args.rules.items; stores = map seen c.args.stores.items } in
    let fits = fits-setting seen (λ v. v.items) c.args.query.now c.args.limits.now c.args.actions.items c.args.rules.items c.args.stores.items c.args.stores.items (vec_len c.args.actions) (omega (arith, c.args.actions.ok.0)) refl in
    begin-ends x c.args.chunks.items (map seen c.in-Err.stores.items) c.in-Err.error
    (subst (λ b. IsBeginCause b (first_fault c.args.query.now) (suits_keys c.args.limits.now.sink (key_types (query_tree c.args.query.now))) c.in-Err.error) (sym fits) c.in-Err.ensures.cause) (ap (λ (l : List S). map seen l) c.in-Err.ensures.back)

pub returns-in-Err-feed : goal.returns-in-Err-feed
returns-in-Err-feed g c =
    let S = g.row.S.Denot in
    let seen : S → StoreSeen = λ s. record { held = g.S.SpillStore.held s; told = g.S.SpillStore.told s; faults = g.S.SpillStore.faults s; sure = g.S.SpillStore.sure s; path = g.S.SpillStore.path s } in
    let x : Setting = record { query = c.args.query.now; limits = c.args.limits.now; actions = map (λ v. v.items) c.args.actions.items; rules = c.args.rules.items; stores = map seen c.args.stores.items } in
    let fits = fits-setting seen (λ v. v.items) c.args.query.now c.args.limits.now c.args.actions.items c.args.rules.items c.args.stores.items c.args.stores.items (vec_len c.args.actions) (omega (arith, c.args.actions.ok.0)) refl in
    let begin : CanBegin x = record { fit = fits ∙ c.in-Ok.ensures.fit; faultless = c.in-Ok.ensures.faultless; suited = c.in-Ok.ensures.suited } in
    typed-refused x c.args.chunks.items c.in-Ok.run' (map seen c.in-Err-feed.stores.items) c.in-Err-feed.error begin c.in-Ok.ensures.setting c.in-Ok.ensures.chunks c.in-Ok.ensures.same
    c.in-Err-feed.ensures.cause c.in-Err-feed.ensures.untouched c.in-Err-feed.ensures.back

pub returns : goal.returns
returns g c =
    let S = g.row.S.Denot in
    let seen : S → StoreSeen = λ s. record { held = g.S.SpillStore.held s; told = g.S.SpillStore.told s; faults = g.S.SpillStore.faults s; sure = g.S.SpillStore.sure s; path = g.S.SpillStore.path s } in
    let x : Setting = record { query = c.args.query.now; limits = c.args.limits.now; actions = map (λ v. v.items) c.args.actions.items; rules = c.args.rules.items; stores = map seen c.args.stores.items } in
    let fits = fits-setting seen (λ v. v.items) c.args.query.now c.args.limits.now c.args.actions.items c.args.rules.items c.args.stores.items c.args.stores.items (vec_len c.args.actions) (omega (arith, c.args.actions.ok.0)) refl in
    let begin : CanBegin x = record { fit = fits ∙ c.in-Ok.ensures.fit; faultless = c.in-Ok.ensures.faultless; suited = c.in-Ok.ensures.suited } in
    let chunks : List DataChunk = c.args.chunks.items in
    let first = c.in-Ok.run' in
    let last = c.in-Ok-feed.fed.0 in
    let fed : last.chunks ≡ chunks = c.in-Ok-feed.ensures.chunks ∙ ap (λ (l : List DataChunk). l ++ chunks) c.in-Ok.ensures.chunks in
    let can : CanRunOver x chunks = record { begin = begin; feed = fed-can x chunks first c.in-Ok.ensures.setting c.in-Ok.ensures.chunks c.in-Ok-feed.ensures.fed } in
    finish-ends x chunks last c.finish.result.0 (map seen c.finish.result.1.items) (c.in-Ok-feed.ensures.setting ∙ c.in-Ok.ensures.setting) fed can
    (calm-same x.stores last.stores (c.in-Ok-feed.ensures.same ∙ c.in-Ok.ensures.same)) c.finish.ensures.answered (holds-on-ok c.finish.result.0 _ c.finish.ensures.unfailed) c.finish.ensures.cause (holds-if-err c.finish.result.0 _ c.finish.ensures.back)
