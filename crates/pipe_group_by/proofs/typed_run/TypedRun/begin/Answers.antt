use Rattle.std.proofs.Common.{rules, ◌≡◌, ◌∙◌, ap, arith, length, map, subst, sym, vec_len}
use Rattle.pipe_aggs.specs.declared.query.Query.{Query}
use Rattle.pipe_aggs.specs.Faults.{first_fault}
use Rattle.pipe_aggs.specs.QueryTrees.{query_tree}
use Rattle.pipe_model.specs.Output.{key_types}
use Rattle.pipe_plan.specs.Run.{StoreSeen}
use Rattle.pipe_sinks.specs.Marks.{IsSole}
use Rattle.pipe_run.specs.Refusals.{IsBeginCause, suits_keys}
use Rattle.pipe_run.proofs.LimitFacts.{fit-same}
use Rattle.pipe_group_by.proofs.Begun.{sole-suited, typed-begun}
use Rattle.pipe_group_by.proofs.typed_run.TypedRun.begin.Goals as goal

pub returns-in-Err-clause-cause : goal.returns-in-Err-clause-cause
returns-in-Err-clause-cause g c =
    subst (λ b. IsBeginCause b (first_fault c.args.query.now) (suits_keys c.args.limits.now.sink (key_types (query_tree c.args.query.now))) c.in-Err.error)
    (sym (fit-same (λ s. g.S.SpillStore.held s) c.args.limits.now c.len.result (vec_len c.args.actions) c.deref.result.now c.args.stores.items c.len.ensures c.deref.ensures.value)) c.in-Err.ensures.cause

pub unused_sinks-requires-clause-key : goal.unused_sinks-requires-clause-key
unused_sinks-requires-clause-key g c =
    subst (λ (q : Query). IsSole (key_types (query_tree q))) (sym (c.hash_under.ensures ∙ c.in-Ok.ensures.query)) (sole-suited c.args.limits.now.sink (key_types (query_tree c.args.query.now)) c.requires.typed c.in-Ok.ensures.suited)

pub returns-in-Err-unused_sinks-clause-cause : goal.returns-in-Err-unused_sinks-clause-cause
returns-in-Err-unused_sinks-clause-cause g c =
    fit-same (λ s. g.S.SpillStore.held s) c.args.limits.now c.len.result (vec_len c.args.actions) c.deref.result.now c.args.stores.items c.len.ensures c.deref.ensures.value ∙ c.in-Ok.ensures.fit

pub returns-clause-fit : goal.returns-clause-fit
returns-clause-fit g c =
    fit-same (λ s. g.S.SpillStore.held s) c.args.limits.now c.len.result (vec_len c.args.actions) c.deref.result.now c.args.stores.items c.len.ensures c.deref.ensures.value ∙ c.in-Ok.ensures.fit

pub invariant_of-result : goal.invariant_of-result
invariant_of-result g c =
    let S = g.row.S.Denot in
    let seen : S → StoreSeen = λ s. record { held = g.S.SpillStore.held s; told = g.S.SpillStore.told s; faults = g.S.SpillStore.faults s; sure = g.S.SpillStore.sure s; path = g.S.SpillStore.path s } in
    let sinks = c.in-Ok-unused_sinks.sinks in
    let count : length sinks.items ≡ vec_len sinks = search rules in (
      typed-begun seen (λ v. v.items) c.hash_under.new.self c.args.query.now c.copy_of.result c.args.limits.now c.args.actions.items c.args.rules.items c.args.stores.items c.deref.result.now c.len.result sinks.items _
          (c.hash_under.ensures ∙ c.in-Ok.ensures.query) c.copy_of.ensures (omega (arith, c.len.ensures, c.args.actions.ok.0)) c.deref.ensures.value c.in-Ok.ensures.fit c.in-Ok.ensures.faultless c.in-Ok.ensures.suited c.requires.typed
          (count ∙ c.in-Ok-unused_sinks.ensures.len) c.in-Ok-unused_sinks.ensures.unused (ap (λ l. map (λ m. m.value) l) c.new.ensures.items),
      c.new-2.ensures,
    )
