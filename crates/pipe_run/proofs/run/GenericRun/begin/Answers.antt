use Rattle.std.proofs.Common.{◌∙◌, ◌<◌, List, ℕ, arith, length, map, subst, sym, vec_len}
use Rattle.std.proofs.lemmas.List.{get_or-map, length-map}
use Rattle.pipe_aggs.specs.Faults.{first_fault}
use Rattle.pipe_aggs.specs.QueryTrees.{query_tree}
use Rattle.pipe_model.specs.Output.{key_types}
use Rattle.pipe_run.specs.Refusals.{IsBeginCause, suits_keys}
use Rattle.pipe_run.proofs.LimitFacts.{fit-count, fit-few, fit-former, fit-limits, fit-same}
use Rattle.pipe_run.proofs.run.GenericRun.begin.Goals as goal

pub before_chunks-requires-clause-limits : goal.before_chunks-requires-clause-limits
before_chunks-requires-clause-limits g c κs lives =
    let fit = fit-same (λ s. g.S.SpillStore.held s) c.args.limits.now c.len.result (vec_len c.args.actions) c.deref.result.now c.args.stores.items c.len.ensures c.deref.ensures.value ∙ c.in-Ok.ensures.fit in
    fit-limits c.args.limits.now (vec_len c.args.actions) (map (λ s. g.S.SpillStore.held s) c.args.stores.items) fit

pub before_chunks-requires-clause-few : goal.before_chunks-requires-clause-few
before_chunks-requires-clause-few g c κs lives =
    let fit = fit-same (λ s. g.S.SpillStore.held s) c.args.limits.now c.len.result (vec_len c.args.actions) c.deref.result.now c.args.stores.items c.len.ensures c.deref.ensures.value ∙ c.in-Ok.ensures.fit in
    fit-few c.args.limits.now (vec_len c.args.actions) (map (λ s. g.S.SpillStore.held s) c.args.stores.items) fit

pub before_chunks-requires-clause-count : goal.before_chunks-requires-clause-count
before_chunks-requires-clause-count g c κs lives =
    let fit = fit-same (λ s. g.S.SpillStore.held s) c.args.limits.now c.len.result (vec_len c.args.actions) c.deref.result.now c.args.stores.items c.len.ensures c.deref.ensures.value ∙ c.in-Ok.ensures.fit in
    omega (arith, fit-count c.args.limits.now (vec_len c.args.actions) (map (λ s. g.S.SpillStore.held s) c.args.stores.items) fit, length-map c.args.stores.items (λ s. g.S.SpillStore.held s), c.args.stores.ok.0)

pub before_chunks-requires-clause-former : goal.before_chunks-requires-clause-former
before_chunks-requires-clause-former g c κs lives k d lt =
    let held : List ℕ = map (λ s. g.S.SpillStore.held s) c.args.stores.items in
    let fit = fit-same (λ s. g.S.SpillStore.held s) c.args.limits.now c.len.result (vec_len c.args.actions) c.deref.result.now c.args.stores.items c.len.ensures c.deref.ensures.value ∙ c.in-Ok.ensures.fit in
    let there : k < length held = omega (arith, lt, length-map c.args.stores.items (λ s. g.S.SpillStore.held s)) in
    let low = fit-former c.args.limits.now (vec_len c.args.actions) held fit k (g.S.SpillStore.held d) there in
    let same = get_or-map (λ s. g.S.SpillStore.held s) c.args.stores.items k d (g.S.SpillStore.held d) lt in
    omega (arith, low, same)

pub returns-in-Err-clause-cause : goal.returns-in-Err-clause-cause
returns-in-Err-clause-cause g c =
    subst (λ b. IsBeginCause b (first_fault c.args.query.now) (suits_keys c.args.limits.now.sink (key_types (query_tree c.args.query.now))) c.in-Err.error)
    (sym (fit-same (λ s. g.S.SpillStore.held s) c.args.limits.now c.len.result (vec_len c.args.actions) c.deref.result.now c.args.stores.items c.len.ensures c.deref.ensures.value)) c.in-Err.ensures.cause

pub returns-in-Ok-before_chunks-clause-fit : goal.returns-in-Ok-before_chunks-clause-fit
returns-in-Ok-before_chunks-clause-fit g c =
    fit-same (λ s. g.S.SpillStore.held s) c.args.limits.now c.len.result (vec_len c.args.actions) c.deref.result.now c.args.stores.items c.len.ensures c.deref.ensures.value ∙ c.in-Ok.ensures.fit

pub returns-in-Err-before_chunks-clause-cause : goal.returns-in-Err-before_chunks-clause-cause
returns-in-Err-before_chunks-clause-cause g c =
    fit-same (λ s. g.S.SpillStore.held s) c.args.limits.now c.len.result (vec_len c.args.actions) c.deref.result.now c.args.stores.items c.len.ensures c.deref.ensures.value ∙ c.in-Ok.ensures.fit
