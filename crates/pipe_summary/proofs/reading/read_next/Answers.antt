use Rattle.std.proofs.Common.{◌≡◌, List, subst}
use Rattle.pipe_aggs.specs.QueryTrees.{query_tree}
use Rattle.pipe_aggs.specs.declared.query.Query.{Query}
use Rattle.pipe_spill.specs.Store.{IsFrameAt}
use Rattle.pipe_states.specs.Files.{IsFairStateOf}
use Rattle.pipe_states.specs.States.{StateSeen}
use Rattle.pipe_states.specs.StateText.{state_text}
use Rattle.pipe_summary.specs.Held.{IsDamagedNext}
use Rattle.pipe_summary.proofs.ReadFacts.{next-late, number-is}
use Rattle.pipe_summary.proofs.reading.read_next.Goals as goal

pub returns-in_default-clause-damaged : goal.returns-in_default-clause-damaged
returns-in_default-clause-damaged g c =
    let told = g.S.SpillStore.told c.args.store.now in
    let states : List StateSeen = c.args.reached.now.states in
    let s : StateSeen = c.in_ok-file.file in
    let same : c.query-query.result.now ≡ c.args.reached.now.query = c.query-query.ensures.query in
    let fair : IsFairStateOf (query_tree c.args.reached.now.query) s = subst (λ (v : Query). IsFairStateOf (query_tree v) s) same c.in_ok-file.ensures.fair in
    let at : IsFrameAt told c.args.number (state_text (query_tree c.args.reached.now.query) s) =
    subst (λ (v : Query). IsFrameAt told c.args.number (state_text (query_tree v) s)) same c.in_ok-file.ensures.frame in
    λ n e.
    subst (IsDamagedNext (query_tree c.args.reached.now.query) told states) (number-is c.args.number n e)
    (next-late (query_tree c.args.reached.now.query) told states s c.args.number c.requires.number fair at c.in_default.ensures.none)
