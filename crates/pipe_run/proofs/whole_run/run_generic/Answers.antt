use Rattle.std.proofs.Common.{rules, ◌≡◌, ◌∙◌, ◌<◌, ◌++◌, ℕ, List, ap, arith, length, map, refl, subst, sym, vec_len}
use Rattle.std.proofs.lemmas.List.{get_or-map, length-map}
use Rattle.pipe_columns.specs.declared.data_chunk.DataChunk.{DataChunk}
use Rattle.pipe_aggs.specs.declared.query.Query.{Query}
use Rattle.pipe_aggs.specs.Faults.{first_fault}
use Rattle.pipe_aggs.specs.QueryTrees.{query_tree}
use Rattle.pipe_model.specs.Rows.{AreChunksOf}
use Rattle.pipe_plan.specs.Run.{StoreSeen}
use Rattle.pipe_run.specs.declared.error.PipeError.TheVariants as error
use Rattle.pipe_run.specs.Failing.{NoneFailed}
use Rattle.pipe_run.specs.Refusals.{AllHaveFields, AreMany, IsBeginCause, IsFirstMisfit}
use Rattle.pipe_run.specs.Setting.{Setting}
use Rattle.pipe_run.specs.WholeRun.{CanBegin, CanRunOver, setting_suits}
use Rattle.pipe_run.proofs.FeedEnds.{can-feed}
use Rattle.pipe_run.proofs.LimitFacts.{fit-count, fit-few, fit-former, fit-limits, fit-same}
use Rattle.pipe_run.proofs.Counted.{calm-twice}
use Rattle.pipe_run.proofs.RunEnds.{begin-ends, chunks-ends, feed-ends, finish-ends, fits-setting, memory-ends}
use Rattle.pipe_run.proofs.whole_run.run_generic.Goals as goal

pub returns-in-Err : goal.returns-in-Err
returns-in-Err g c =
    let S = g.row.S.Denot in
    let seen : S → StoreSeen = λ s. record { held = g.S.SpillStore.held s; told = g.S.SpillStore.told s; faults = g.S.SpillStore.faults s; sure = g.S.SpillStore.sure s; path = g.S.SpillStore.path s } in
    let x : Setting = record { query = c.args.query.now; limits = c.args.limits.now; actions = map (λ v. v.items) c.args.actions.items; rules = c.args.rules.items; stores = map seen c.args.stores.items } in
    let fits = fits-setting seen (λ v. v.items) c.args.query.now c.args.limits.now c.args.actions.items c.args.rules.items c.args.stores.items c.deref.result.now c.len.result (omega (arith, c.len.ensures, c.args.actions.ok.0)) c.deref.ensures.value in
    begin-ends x c.args.chunks.items (map seen c.args.stores.items) c.in-Err.error (subst (λ b. IsBeginCause b (first_fault c.args.query.now) (setting_suits x) c.in-Err.error) (sym fits) c.in-Err.ensures.cause) refl

pub returns-in-Err-checked_rows : goal.returns-in-Err-checked_rows
returns-in-Err-checked_rows g c =
    let S = g.row.S.Denot in
    let seen : S → StoreSeen = λ s. record { held = g.S.SpillStore.held s; told = g.S.SpillStore.told s; faults = g.S.SpillStore.faults s; sure = g.S.SpillStore.sure s; path = g.S.SpillStore.path s } in
    let x : Setting = record { query = c.args.query.now; limits = c.args.limits.now; actions = map (λ v. v.items) c.args.actions.items; rules = c.args.rules.items; stores = map seen c.args.stores.items } in
    let fits = fits-setting seen (λ v. v.items) c.args.query.now c.args.limits.now c.args.actions.items c.args.rules.items c.args.stores.items c.deref.result.now c.len.result (omega (arith, c.len.ensures, c.args.actions.ok.0)) c.deref.ensures.value in
    let begin : CanBegin x = record { fit = fits ∙ c.in-Ok.ensures.fit; faultless = c.in-Ok.ensures.faultless; suited = c.in-Ok.ensures.suited } in
    let chunks : List DataChunk = c.args.chunks.items in
    let e = c.in-Err-checked_rows.error in
    let misfit : (i : ℕ) → e ≡ error.Schema i → IsFirstMisfit c.args.query.now.schema chunks i =
    subst (λ (q : Query). (i : ℕ) → e ≡ error.Schema i → IsFirstMisfit q.schema chunks i) c.in-Ok.ensures.query
    (subst (λ (l : List DataChunk). (i : ℕ) → e ≡ error.Schema i → IsFirstMisfit c.in-Ok.checked.schema l i) c.deref-2.ensures.value c.in-Err-checked_rows.ensures.misfit) in
    let large : e ≡ error.TooLarge → AllHaveFields c.args.query.now.schema chunks × AreMany chunks =
    subst (λ (q : Query). e ≡ error.TooLarge → AllHaveFields q.schema chunks × AreMany chunks) c.in-Ok.ensures.query
    (subst (λ (l : List DataChunk). e ≡ error.TooLarge → AllHaveFields c.in-Ok.checked.schema l × AreMany l) c.deref-2.ensures.value c.in-Err-checked_rows.ensures.large) in
    chunks-ends x chunks (map seen c.args.stores.items) e begin refl c.in-Err-checked_rows.ensures.kinds misfit large

pub before_chunks-requires-clause-count : goal.before_chunks-requires-clause-count
before_chunks-requires-clause-count g c κs within =
    let fit = fit-same (λ s. g.S.SpillStore.held s) c.args.limits.now c.len.result (vec_len c.args.actions) c.deref.result.now c.args.stores.items c.len.ensures c.deref.ensures.value ∙ c.in-Ok.ensures.fit in
    omega (arith, fit-count c.args.limits.now (vec_len c.args.actions) (map (λ s. g.S.SpillStore.held s) c.args.stores.items) fit, length-map c.args.stores.items (λ s. g.S.SpillStore.held s), c.args.stores.ok.0)

pub before_chunks-requires-clause-former : goal.before_chunks-requires-clause-former
before_chunks-requires-clause-former g c κs within k d lt =
    let held : List ℕ = map (λ s. g.S.SpillStore.held s) c.args.stores.items in
    let fit = fit-same (λ s. g.S.SpillStore.held s) c.args.limits.now c.len.result (vec_len c.args.actions) c.deref.result.now c.args.stores.items c.len.ensures c.deref.ensures.value ∙ c.in-Ok.ensures.fit in
    let there : k < length held = omega (arith, lt, length-map c.args.stores.items (λ s. g.S.SpillStore.held s)) in
    let low = fit-former c.args.limits.now (vec_len c.args.actions) held fit k (g.S.SpillStore.held d) there in
    let same = get_or-map (λ s. g.S.SpillStore.held s) c.args.stores.items k d (g.S.SpillStore.held d) lt in
    omega (arith, low, same)

pub before_chunks-requires-clause-limits : goal.before_chunks-requires-clause-limits
before_chunks-requires-clause-limits g c κs within =
    let fit = fit-same (λ s. g.S.SpillStore.held s) c.args.limits.now c.len.result (vec_len c.args.actions) c.deref.result.now c.args.stores.items c.len.ensures c.deref.ensures.value ∙ c.in-Ok.ensures.fit in
    fit-limits c.args.limits.now (vec_len c.args.actions) (map (λ s. g.S.SpillStore.held s) c.args.stores.items) fit

pub before_chunks-requires-clause-few : goal.before_chunks-requires-clause-few
before_chunks-requires-clause-few g c κs within =
    let fit = fit-same (λ s. g.S.SpillStore.held s) c.args.limits.now c.len.result (vec_len c.args.actions) c.deref.result.now c.args.stores.items c.len.ensures c.deref.ensures.value ∙ c.in-Ok.ensures.fit in
    fit-few c.args.limits.now (vec_len c.args.actions) (map (λ s. g.S.SpillStore.held s) c.args.stores.items) fit

pub returns-in-Err-before_chunks : goal.returns-in-Err-before_chunks
returns-in-Err-before_chunks g c =
    let S = g.row.S.Denot in
    let seen : S → StoreSeen = λ s. record { held = g.S.SpillStore.held s; told = g.S.SpillStore.told s; faults = g.S.SpillStore.faults s; sure = g.S.SpillStore.sure s; path = g.S.SpillStore.path s } in
    let x : Setting = record { query = c.args.query.now; limits = c.args.limits.now; actions = map (λ v. v.items) c.args.actions.items; rules = c.args.rules.items; stores = map seen c.args.stores.items } in
    let fits = fits-setting seen (λ v. v.items) c.args.query.now c.args.limits.now c.args.actions.items c.args.rules.items c.args.stores.items c.deref.result.now c.len.result (omega (arith, c.len.ensures, c.args.actions.ok.0)) c.deref.ensures.value in
    let back : c.in-Err-before_chunks.stores.items ≡ c.args.stores.items = search rules in
    memory-ends x c.args.chunks.items (map seen c.in-Err-before_chunks.stores.items) (fits ∙ c.in-Ok.ensures.fit) (ap (λ (l : List S). map seen l) back)

pub returns-in-Err-feed : goal.returns-in-Err-feed
returns-in-Err-feed g c =
    let S = g.row.S.Denot in
    let seen : S → StoreSeen = λ s. record { held = g.S.SpillStore.held s; told = g.S.SpillStore.told s; faults = g.S.SpillStore.faults s; sure = g.S.SpillStore.sure s; path = g.S.SpillStore.path s } in
    let x : Setting = record { query = c.args.query.now; limits = c.args.limits.now; actions = map (λ v. v.items) c.args.actions.items; rules = c.args.rules.items; stores = map seen c.args.stores.items } in
    let fits = fits-setting seen (λ v. v.items) c.args.query.now c.args.limits.now c.args.actions.items c.args.rules.items c.args.stores.items c.deref.result.now c.len.result (omega (arith, c.len.ensures, c.args.actions.ok.0)) c.deref.ensures.value in
    let begin : CanBegin x = record { fit = fits ∙ c.in-Ok.ensures.fit; faultless = c.in-Ok.ensures.faultless; suited = c.in-Ok.ensures.suited } in
    let chunks : List DataChunk = c.args.chunks.items in
    let are : AreChunksOf (query_tree c.args.query.now) chunks = subst (λ (q : Query). AreChunksOf (query_tree q) chunks) c.in-Ok.ensures.query
    (subst (λ (l : List DataChunk). AreChunksOf (query_tree c.in-Ok.checked) l) c.deref-2.ensures.value c.in-Ok-checked_rows.ensures.chunks) in
    let can : CanRunOver x chunks = record { begin = begin; feed = can-feed x chunks are } in
    let first = c.in-Ok-before_chunks.run' in
    let setting : first.setting ≡ x = c.in-Ok-before_chunks.ensures.setting
    ∙ ap {B = Setting} (λ (q : Query). record { query = q; limits = c.args.limits.now; actions = map (λ v. v.items) c.args.actions.items; rules = c.args.rules.items; stores = map seen c.args.stores.items }) c.in-Ok.ensures.query in
    let calm : NoneFailed x.stores first.stores = c.in-Ok-before_chunks.ensures.counted in
    feed-ends x chunks first (map seen c.in-Err-feed.stores.items) c.in-Err-feed.error can setting c.in-Ok-before_chunks.ensures.chunks calm c.in-Err-feed.ensures.cause c.in-Err-feed.ensures.back

pub returns : goal.returns
returns g c =
    let S = g.row.S.Denot in
    let seen : S → StoreSeen = λ s. record { held = g.S.SpillStore.held s; told = g.S.SpillStore.told s; faults = g.S.SpillStore.faults s; sure = g.S.SpillStore.sure s; path = g.S.SpillStore.path s } in
    let x : Setting = record { query = c.args.query.now; limits = c.args.limits.now; actions = map (λ v. v.items) c.args.actions.items; rules = c.args.rules.items; stores = map seen c.args.stores.items } in
    let fits = fits-setting seen (λ v. v.items) c.args.query.now c.args.limits.now c.args.actions.items c.args.rules.items c.args.stores.items c.deref.result.now c.len.result (omega (arith, c.len.ensures, c.args.actions.ok.0)) c.deref.ensures.value in
    let begin : CanBegin x = record { fit = fits ∙ c.in-Ok.ensures.fit; faultless = c.in-Ok.ensures.faultless; suited = c.in-Ok.ensures.suited } in
    let chunks : List DataChunk = c.args.chunks.items in
    let are : AreChunksOf (query_tree c.args.query.now) chunks = subst (λ (q : Query). AreChunksOf (query_tree q) chunks) c.in-Ok.ensures.query
    (subst (λ (l : List DataChunk). AreChunksOf (query_tree c.in-Ok.checked) l) c.deref-2.ensures.value c.in-Ok-checked_rows.ensures.chunks) in
    let can : CanRunOver x chunks = record { begin = begin; feed = can-feed x chunks are } in
    let first = c.in-Ok-before_chunks.run' in
    let setting : first.setting ≡ x = c.in-Ok-before_chunks.ensures.setting
    ∙ ap {B = Setting} (λ (q : Query). record { query = q; limits = c.args.limits.now; actions = map (λ v. v.items) c.args.actions.items; rules = c.args.rules.items; stores = map seen c.args.stores.items }) c.in-Ok.ensures.query in
    let calm : NoneFailed x.stores first.stores = c.in-Ok-before_chunks.ensures.counted in
    let last = c.in-Ok-feed.run' in
    let fed : last.chunks ≡ chunks = c.in-Ok-feed.ensures.chunks ∙ ap (λ (l : List DataChunk). l ++ chunks) c.in-Ok-before_chunks.ensures.chunks in
    finish-ends x chunks last c.finish.result.0 (map seen c.finish.result.1.items) (c.in-Ok-feed.ensures.setting ∙ setting) fed can (calm-twice x.stores first.stores last.stores calm c.in-Ok-feed.ensures.counted) c.finish.ensures.answered c.finish.ensures.unfailed c.finish.ensures.cause c.finish.ensures.back
