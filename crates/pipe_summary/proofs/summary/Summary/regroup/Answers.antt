use Rattle.std.proofs.Common.{rules, ◌≡◌, ◌∙◌, None, IfSome, ap, subst}
use Rattle.pipe_aggs.specs.QueryTrees.{query_tree}
use Rattle.pipe_aggs.specs.declared.query.Query.{Query}
use Rattle.pipe_model.specs.Query.{QueryTree}
use Rattle.pipe_states.specs.Regrouped.{regrouped}
use Rattle.pipe_summary.specs.Held.{IsRegrouped}
use Rattle.pipe_summary.specs.Summed.{all_keys}
use Rattle.pipe_summary.proofs.HoldFacts.{regrouped-read, regrouped-told}
use Rattle.pipe_summary.proofs.ReadFacts.{again, again-sound, held-again}
use Rattle.pipe_summary.proofs.summary.Summary.regroup.Goals as goal

pub returns-in_err-regrouping-2-clause-damaged : goal.returns-in_err-regrouping-2-clause-damaged
returns-in_err-regrouping-2-clause-damaged g c =
    let store = g.S.SpillStore in
    let same : c.none-reached.result.query ≡ c.self.inside.reached.query = ap (λ v. v.query) c.none-reached.ensures ∙ c.query-query.ensures.query in
    λ n e.
    subst (λ v. store.told v.store ≡ None) c.self.view_is
    (again-sound c.self.inside.reached.query c.none-reached.result.query (store.told c.self.inside.store) (store.held c.self.inside.store) c.self.inside.reached.states n c.self.invariant.holds same
    (c.add_all.ensures.damaged n (search rules)))

pub returns-in-Ok-clause-regrouped : goal.returns-in-Ok-clause-regrouped
returns-in-Ok-clause-regrouped g c =
    let store = g.S.SpillStore in
    let q : QueryTree = query_tree c.self.inside.reached.query in
    let e = c.in_ok-regrouping-2.ensures in
    let begun = c.in_ok-regrouping.ensures in
    let same : c.none-reached.result.query ≡ c.self.inside.reached.query = ap (λ v. v.query) c.none-reached.ensures ∙ c.query-query.ensures.query in
    let by : c.in_ok-regrouping-2.regrouping.query ≡ c.self.inside.reached.query = e.of_query ∙ ap (λ v. v.query) begun ∙ c.query-query.ensures.query in
    let keep : c.in_ok-regrouping-2.regrouping.keep ≡ all_keys q =
    e.keep ∙ ap (λ v. v.keep) begun ∙ c.deref.ensures.value ∙ c.in_ok-keep.ensures.keys ∙ ap (λ (p : Query). all_keys (query_tree p)) c.query-query.ensures.query in
    subst (λ v. IfSome (store.told v.store) (λ frames. c.in-Ok.frame ≡ regrouped (query_tree v.query) v.states (all_keys (query_tree v.query)))) c.self.view_is
    (regrouped-told q (store.told c.self.inside.store) c.self.inside.reached.states c.add_all.new.reached.states c.in_ok-regrouping-2.regrouping.files c.in_ok-regrouping-2.regrouping.keep
    (query_tree c.in_ok-regrouping-2.regrouping.query) c.in-Ok.frame
    (again c.self.inside.reached.query c.none-reached.result.query (store.told c.self.inside.store) (store.told c.add_all.new.store) (store.held c.self.inside.store) (store.held c.add_all.new.store)
    c.self.inside.reached.states c.add_all.new.reached.states c.self.invariant.holds same c.add_all.ensures.told c.add_all.ensures.held e.holds)
    c.in-Ok.ensures.frame (ap (λ (p : Query). query_tree p) by) e.files keep)

pub returns-in-Ok-clause-read : goal.returns-in-Ok-clause-read
returns-in-Ok-clause-read g c =
    let store = g.S.SpillStore in
    let q : QueryTree = query_tree c.self.inside.reached.query in
    let e = c.in_ok-regrouping-2.ensures in
    let begun = c.in_ok-regrouping.ensures in
    let same : c.none-reached.result.query ≡ c.self.inside.reached.query = ap (λ v. v.query) c.none-reached.ensures ∙ c.query-query.ensures.query in
    let by : c.in_ok-regrouping-2.regrouping.query ≡ c.self.inside.reached.query = e.of_query ∙ ap (λ v. v.query) begun ∙ c.query-query.ensures.query in
    let keep : c.in_ok-regrouping-2.regrouping.keep ≡ all_keys q =
    e.keep ∙ ap (λ v. v.keep) begun ∙ c.deref.ensures.value ∙ c.in_ok-keep.ensures.keys ∙ ap (λ (p : Query). all_keys (query_tree p)) c.query-query.ensures.query in
    subst (λ v. IsRegrouped (query_tree v.query) (store.told v.store) (store.held v.store) c.in-Ok.frame) c.self.view_is
    (regrouped-read q (store.told c.self.inside.store) (store.held c.self.inside.store) c.add_all.new.reached.states c.in_ok-regrouping-2.regrouping.files c.in_ok-regrouping-2.regrouping.keep
    (query_tree c.in_ok-regrouping-2.regrouping.query) c.in-Ok.frame
    (held-again c.self.inside.reached.query c.none-reached.result.query (store.told c.self.inside.store) (store.told c.add_all.new.store) (store.held c.self.inside.store) (store.held c.add_all.new.store)
    c.add_all.new.reached.states same c.add_all.ensures.told c.add_all.ensures.held e.holds)
    c.in-Ok.ensures.frame (ap (λ (p : Query). query_tree p) by) e.files keep)
