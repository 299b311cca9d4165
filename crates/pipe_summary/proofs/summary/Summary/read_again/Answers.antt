use Rattle.std.proofs.Common.{rules, ◌≡◌, ◌∙◌, List, None, IfSome, sym, ap, subst}
use Rattle.pipe_aggs.specs.QueryTrees.{query_tree}
use Rattle.pipe_states.specs.States.{StateSeen}
use Rattle.pipe_summary.specs.InTurn.{HoldsStates}
use Rattle.pipe_summary.proofs.ReadFacts.{again, again-sound, held-again}
use Rattle.pipe_summary.proofs.summary.Summary.read_again.Goals as goal

pub returns-in-Ok-clause-files : goal.returns-in-Ok-clause-files
returns-in-Ok-clause-files g c =
    let store = g.S.SpillStore in
    let same : c.none-reached.result.query ≡ c.self.inside.reached.query = ap (λ v. v.query) c.none-reached.ensures ∙ c.query.ensures.query in
    subst (λ v. IfSome (store.told v.store) (λ frames. c.in-Ok.files.items ≡ v.states)) c.self.view_is
    (subst (λ (l : List StateSeen). IfSome (store.told c.self.inside.store) (λ frames. l ≡ c.self.inside.reached.states)) (sym c.in-Ok.ensures.files)
    (again c.self.inside.reached.query c.none-reached.result.query (store.told c.self.inside.store) (store.told c.read_files.new.store) (store.held c.self.inside.store) (store.held c.read_files.new.store)
    c.self.inside.reached.states c.read_files.new.reached.states c.self.invariant.holds same c.read_files.ensures.told c.read_files.ensures.held c.in-Ok.ensures.holds))

pub returns-clause-damaged : goal.returns-clause-damaged
returns-clause-damaged g c =
    let store = g.S.SpillStore in
    let same : c.none-reached.result.query ≡ c.self.inside.reached.query = ap (λ v. v.query) c.none-reached.ensures ∙ c.query.ensures.query in
    λ n e.
    subst (λ v. store.told v.store ≡ None) c.self.view_is
    (again-sound c.self.inside.reached.query c.none-reached.result.query (store.told c.self.inside.store) (store.held c.self.inside.store) c.self.inside.reached.states n c.self.invariant.holds same
    (c.read_files.ensures.damaged n (search rules)))

pub returns-in-Ok-clause-read : goal.returns-in-Ok-clause-read
returns-in-Ok-clause-read g c =
    let store = g.S.SpillStore in
    let same : c.none-reached.result.query ≡ c.self.inside.reached.query = ap (λ v. v.query) c.none-reached.ensures ∙ c.query.ensures.query in
    subst (λ v. HoldsStates (query_tree v.query) (store.told v.store) (store.held v.store) c.in-Ok.files.items) c.self.view_is
    (subst (HoldsStates (query_tree c.self.inside.reached.query) (store.told c.self.inside.store) (store.held c.self.inside.store)) (sym c.in-Ok.ensures.files)
    (held-again c.self.inside.reached.query c.none-reached.result.query (store.told c.self.inside.store) (store.told c.read_files.new.store) (store.held c.self.inside.store) (store.held c.read_files.new.store)
    c.read_files.new.reached.states same c.read_files.ensures.told c.read_files.ensures.held c.in-Ok.ensures.holds))
