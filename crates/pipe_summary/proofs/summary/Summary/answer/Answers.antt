use Rattle.std.proofs.Common.{◌≡◌, ◌∙◌, ap}
use Rattle.pipe_aggs.specs.QueryTrees.{query_tree}
use Rattle.pipe_aggs.specs.declared.query.Query.{Query}
use Rattle.pipe_model.specs.Query.{QueryTree}
use Rattle.pipe_summary.proofs.HoldFacts.{stands-answer, summed-read, summed-told}
use Rattle.pipe_summary.proofs.summary.Summary.answer.Goals as goal

pub returns-clause-answer : goal.returns-clause-answer
returns-clause-answer g c =
    let store = g.S.SpillStore in
    let q : QueryTree = query_tree c.args.self.now.query in
    let told = store.told c.args.self.now.store in
    let slice : c.slice.result ≡ q.slice =
    c.slice.ensures ∙ ap (λ (p : Query). (query_tree p).slice) (c.query.ensures.query ∙ ap (λ v. v.query) c.self.view_is ∙ c.regroup.ensures.query) in
    λ chunks stood.
    stands-answer q told (store.held c.args.self.now.store) c.args.self.now.states chunks c.sliced.result c.recall.ensures.unordered c.recall.ensures.holds
    (summed-told q told c.args.self.now.states c.slice.result c.in_ok-frame.frame c.sliced.result c.in_ok-frame.ensures.regrouped slice c.sliced.ensures) stood

pub returns-clause-read : goal.returns-clause-read
returns-clause-read g c =
    let store = g.S.SpillStore in
    let q : QueryTree = query_tree c.args.self.now.query in
    let slice : c.slice.result ≡ q.slice =
    c.slice.ensures ∙ ap (λ (p : Query). (query_tree p).slice) (c.query.ensures.query ∙ ap (λ v. v.query) c.self.view_is ∙ c.regroup.ensures.query) in
    summed-read q (store.told c.args.self.now.store) (store.held c.args.self.now.store) c.slice.result c.in_ok-frame.frame c.sliced.result c.in_ok-frame.ensures.read slice c.sliced.ensures
