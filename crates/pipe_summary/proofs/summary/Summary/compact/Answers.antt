use Rattle.std.proofs.Common.{rules, ◌≡◌, ◌∙◌, ◌≤◌, List, length, ap, subst, arith}
use Rattle.pipe_aggs.specs.QueryTrees.{query_tree}
use Rattle.pipe_aggs.specs.declared.query.Query.{Query}
use Rattle.pipe_model.specs.Query.{QueryTree}
use Rattle.pipe_states.specs.States.{StateSeen}
use Rattle.pipe_spill.specs.Store.{HasHeld, with_frame}
use Rattle.pipe_states.specs.Regrouped.{merged_states}
use Rattle.pipe_states.specs.StateText.{state_text}
use Rattle.pipe_summary.proofs.HoldFacts.{merged-read, merged-told, stands-merged}
use Rattle.pipe_summary.proofs.summary.Summary.compact.Goals as goal

pub returns-in-Ok-put_into-clause-merged : goal.returns-in-Ok-put_into-clause-merged
returns-in-Ok-put_into-clause-merged g c =
    let q : QueryTree = query_tree c.args.self.now.query in
    let files : List StateSeen = c.in-Ok.files.items in
    let same : c.query.result.now ≡ c.args.self.now.query = c.query.ensures.query ∙ ap (λ v. v.query) c.self.view_is ∙ c.read_again.ensures.query in
    let text : c.in-Ok-merged_text.text.items ≡ state_text q (merged_states q files) =
    c.in-Ok-merged_text.ensures ∙ ap (λ (p : Query). state_text (query_tree p) (merged_states (query_tree p) c.deref.result.now)) same
    ∙ ap (λ (l : List StateSeen). state_text q (merged_states q l)) c.deref.ensures.value in
    let put : g.T.SpillStore.told c.put_into.new.into ≡ with_frame (g.T.SpillStore.told c.args.into.now) c.in-Ok-merged_text.text.items =
    c.in-Ok-put_into.ensures.told ∙ ap (with_frame (g.T.SpillStore.told c.args.into.now)) c.deref-2.ensures.value in
    let some : 1 ≤ length files = search rules in
    merged-told q (g.S.SpillStore.told c.args.self.now.store) (g.T.SpillStore.told c.args.into.now) (g.T.SpillStore.told c.put_into.new.into) c.args.self.now.states files c.in-Ok-merged_text.text.items
    c.in-Ok.ensures.files (λ n. omega (arith, n, some)) text put

pub returns-in-Ok-put_into-clause-stands : goal.returns-in-Ok-put_into-clause-stands
returns-in-Ok-put_into-clause-stands g c =
    let q : QueryTree = query_tree c.args.self.now.query in
    let empty : HasHeld (g.T.SpillStore.told c.args.into.now) 0 = subst (HasHeld (g.T.SpillStore.told c.args.into.now)) c.requires (g.T.SpillStore.tells_all c.args.into.now) in
    λ chunks stood.
    stands-merged q (g.S.SpillStore.told c.args.self.now.store) (g.T.SpillStore.told c.args.into.now) (g.T.SpillStore.told c.put_into.new.into) (g.S.SpillStore.held c.args.self.now.store)
    c.args.self.now.states chunks c.recall.ensures.holds empty (returns-in-Ok-put_into-clause-merged g c) stood

pub returns-in-Ok-put_into-clause-read : goal.returns-in-Ok-put_into-clause-read
returns-in-Ok-put_into-clause-read g c =
    let q : QueryTree = query_tree c.args.self.now.query in
    let files : List StateSeen = c.in-Ok.files.items in
    let same : c.query.result.now ≡ c.args.self.now.query = c.query.ensures.query ∙ ap (λ v. v.query) c.self.view_is ∙ c.read_again.ensures.query in
    let text : c.in-Ok-merged_text.text.items ≡ state_text q (merged_states q files) =
    c.in-Ok-merged_text.ensures ∙ ap (λ (p : Query). state_text (query_tree p) (merged_states (query_tree p) c.deref.result.now)) same
    ∙ ap (λ (l : List StateSeen). state_text q (merged_states q l)) c.deref.ensures.value in
    let put : g.T.SpillStore.told c.put_into.new.into ≡ with_frame (g.T.SpillStore.told c.args.into.now) c.in-Ok-merged_text.text.items =
    c.in-Ok-put_into.ensures.told ∙ ap (with_frame (g.T.SpillStore.told c.args.into.now)) c.deref-2.ensures.value in
    let some : 1 ≤ length files = search rules in
    merged-read q (g.S.SpillStore.told c.args.self.now.store) (g.T.SpillStore.told c.args.into.now) (g.T.SpillStore.told c.put_into.new.into) (g.S.SpillStore.held c.args.self.now.store) files
    c.in-Ok-merged_text.text.items c.in-Ok.ensures.read (λ n. omega (arith, n, some)) text put
