use Rattle.std.proofs.Common.{◌≡◌, ◌∙◌, ℕ, List, Option, sym, ap, subst}
use Rattle.pipe_aggs.specs.QueryTrees.{query_tree}
use Rattle.pipe_aggs.specs.declared.query.Query.{Query}
use Rattle.pipe_model.specs.Query.{QueryTree}
use Rattle.pipe_spill.specs.Store.{with_frame}
use Rattle.pipe_states.specs.States.{StateSeen}
use Rattle.pipe_states.specs.StateText.{state_text}
use Rattle.pipe_summary.specs.Held.{IsSummary}
use Rattle.pipe_summary.specs.InTurn.{HoldsStates}
use Rattle.pipe_summary.proofs.AddFacts.{has-room, holds-put}
use Rattle.pipe_summary.proofs.summary.Summary.put_state.Goals as goal

pub put-requires : goal.put-requires
put-requires g c =
    record { room = has-room (query_tree c.self.inside.reached.query) (g.S.SpillStore.told c.self.inside.store) (g.S.SpillStore.held c.self.inside.store) c.self.inside.reached.states c.self.invariant.holds }

pub invariant_of-self : goal.invariant_of-self
invariant_of-self g c =
    let q : QueryTree = query_tree c.self.inside.reached.query in
    let told = g.S.SpillStore.told c.self.inside.store in
    let s : StateSeen = c.args.file.now in
    let put : g.S.SpillStore.told c.put.new.self ≡ with_frame told (state_text q s) =
    c.in-Ok-put.ensures.told ∙ ap (with_frame told) (c.deref.ensures.value ∙ c.in-Ok.ensures ∙ ap (λ (p : Query). state_text (query_tree p) s) c.query.ensures.query) in
    subst (λ (p : Query). IsSummary (query_tree p) (g.S.SpillStore.told c.put.new.self) (g.S.SpillStore.held c.put.new.self) c.push.new.self.states) (sym c.push.ensures.query) (record {
      unordered = c.self.invariant.unordered;
      holds = holds-put q told (g.S.SpillStore.told c.put.new.self) (g.S.SpillStore.held c.self.inside.store) (g.S.SpillStore.held c.put.new.self) c.self.inside.reached.states c.push.new.self.states s
          c.self.invariant.holds c.in-Some.ensures.in_turn put c.in-Ok-put.ensures.held c.push.ensures.states;
    })

pub returns-in-Ok-put-clause-told : goal.returns-in-Ok-put-clause-told
returns-in-Ok-put-clause-told g c =
    let told = g.S.SpillStore.told c.self.inside.store in
    let s : StateSeen = c.args.file.now in
    c.in-Ok-put.ensures.told ∙ ap (with_frame told) (c.deref.ensures.value ∙ c.in-Ok.ensures ∙ ap (λ (p : Query). state_text (query_tree p) s) c.query.ensures.query)
    ∙ ap (λ (p : Query). with_frame told (state_text (query_tree p) s)) (ap (λ v. v.query) c.self.view_is)
    ∙ ap (λ (t : Option (List (List ℕ))). with_frame t (state_text (query_tree c.args.self.now.query) s)) (ap (λ v. g.S.SpillStore.told v.store) c.self.view_is)

pub returns-in-Ok-put-clause-holds : goal.returns-in-Ok-put-clause-holds
returns-in-Ok-put-clause-holds g c =
    let q : QueryTree = query_tree c.self.inside.reached.query in
    let told = g.S.SpillStore.told c.self.inside.store in
    let s : StateSeen = c.args.file.now in
    let put : g.S.SpillStore.told c.put.new.self ≡ with_frame told (state_text q s) =
    c.in-Ok-put.ensures.told ∙ ap (with_frame told) (c.deref.ensures.value ∙ c.in-Ok.ensures ∙ ap (λ (p : Query). state_text (query_tree p) s) c.query.ensures.query) in
    subst (λ (p : Query). HoldsStates (query_tree p) (g.S.SpillStore.told c.put.new.self) (g.S.SpillStore.held c.put.new.self) c.push.new.self.states) (ap (λ v. v.query) c.self.view_is)
    (holds-put q told (g.S.SpillStore.told c.put.new.self) (g.S.SpillStore.held c.self.inside.store) (g.S.SpillStore.held c.put.new.self) c.self.inside.reached.states c.push.new.self.states s
    c.self.invariant.holds c.in-Some.ensures.in_turn put c.in-Ok-put.ensures.held c.push.ensures.states)
