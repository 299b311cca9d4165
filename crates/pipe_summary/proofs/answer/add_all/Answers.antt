use Rattle.std.proofs.Common.{rules, ◌≡◌, ◌<◌, ◌∙◌, ◌∷◌, ◌++◌, [], List, sym, ap, subst, arith}
use Rattle.pipe_aggs.specs.QueryTrees.{query_tree}
use Rattle.pipe_aggs.specs.declared.query.Query.{Query}
use Rattle.pipe_model.specs.Query.{QueryTree}
use Rattle.pipe_spill.specs.Store.{IsFrameAt}
use Rattle.pipe_states.specs.Fair.{IsStateOf}
use Rattle.pipe_states.specs.States.{StateSeen}
use Rattle.pipe_states.specs.StateText.{state_text}
use Rattle.pipe_summary.specs.Held.{IsDamagedNext}
use Rattle.pipe_summary.specs.InTurn.{AreInTurn}
use Rattle.pipe_summary.proofs.ReadFacts.{read-all, read-damaged, read-more}
use Rattle.pipe_summary.proofs.TurnFacts.{next-in_turn}
use Rattle.pipe_summary.proofs.answer.add_all.Goals as goal

pub loop-number-preserved : goal.loop-number-preserved
loop-number-preserved g c =
    let q : QueryTree = query_tree c.args.reached.now.query in
    let told = g.S.SpillStore.told c.args.store.now in
    let i = c.loop-number.invariant in
    let s : StateSeen = c.in_ok-file.file in
    let at : IsFrameAt (g.S.SpillStore.told c.loop-number.store) c.loop-number.number (state_text q s) =
    subst (λ (v : Query). IsFrameAt (g.S.SpillStore.told c.loop-number.store) c.loop-number.number (state_text (query_tree v) s)) i.query c.in_ok-file.ensures.frame in
    let more = read-more q told (g.S.SpillStore.told c.loop-number.store) c.loop-number.reached.states c.read_next.new.reached.states s c.loop-number.number i.count i.front i.told at c.in_ok-file.ensures.states in
    record {
      query = c.read_next.ensures.query ∙ i.query;
      count = more.0;
      in_turn = subst (λ (v : Query). AreInTurn (query_tree v) c.read_next.new.reached.states) i.query c.in_ok-file.ensures.in_turn;
      front = more.1;
      told = c.read_next.ensures.told ∙ i.told;
      held = c.read_next.ensures.held ∙ i.held;
      sure = c.read_next.ensures.sure ∙ i.sure;
      path = c.read_next.ensures.path ∙ i.path;
      faults = c.read_next.ensures.calm (search rules) ∙ i.faults;
      of_query = c.in_ok-regrouping.ensures.query ∙ i.of_query;
      keep = c.in_ok-regrouping.ensures.keep ∙ i.keep;
      files = c.in_ok-regrouping.ensures.files ∙ ap (λ (l : List StateSeen). l ++ s ∷ []) i.files ∙ sym c.in_ok-file.ensures.states;
    }

pub returns-in_err-file-clause-damaged : goal.returns-in_err-file-clause-damaged
returns-in_err-file-clause-damaged g c =
    let q : QueryTree = query_tree c.args.reached.now.query in
    let told = g.S.SpillStore.told c.args.store.now in
    let i = c.loop-number.invariant in
    λ n e.
    read-damaged q told (g.S.SpillStore.told c.loop-number.store) c.loop-number.reached.states n i.in_turn i.front i.told
    (subst (λ (v : Query). IsDamagedNext (query_tree v) (g.S.SpillStore.told c.loop-number.store) c.loop-number.reached.states n) i.query (c.read_next.ensures.damaged n (search rules)))

pub add-requires : goal.add-requires
add-requires g c =
    let q : QueryTree = query_tree c.args.reached.now.query in
    let old : List StateSeen = c.loop-number.reached.states in
    let i = c.loop-number.invariant in
    let s : StateSeen = c.in_ok-file.file in
    let turn : AreInTurn q (old ++ s ∷ []) =
    subst (AreInTurn q) c.in_ok-file.ensures.states (subst (λ (v : Query). AreInTurn (query_tree v) c.read_next.new.reached.states) i.query c.in_ok-file.ensures.in_turn) in
    subst (λ (v : Query). IsStateOf (query_tree v) s) (sym (i.of_query ∙ c.requires.same)) (next-in_turn q old s turn).fair.of_query

pub returns-clause-holds : goal.returns-clause-holds
returns-clause-holds g c =
    let q : QueryTree = query_tree c.args.reached.now.query in
    let i = c.loop-number.invariant in
    let stop : c.loop-number.number ≡ g.S.SpillStore.held c.loop-number.store = let first = c.held-number-end.ensures in omega (arith, i.held, first, c.loop-number-test.false, c.loop-number.auto.number-end) in
    read-all q (g.S.SpillStore.told c.args.store.now) (g.S.SpillStore.told c.loop-number.store) (g.S.SpillStore.held c.loop-number.store) c.loop-number.number c.loop-number.reached.states
    i.in_turn i.front i.told (g.S.SpillStore.tells_all c.loop-number.store) i.count stop

pub returns-in_err-file-clause-within : goal.returns-in_err-file-clause-within
returns-in_err-file-clause-within g c =
    let i = c.loop-number.invariant in
    λ n e.
    let d : IsDamagedNext (query_tree c.loop-number.reached.query) (g.S.SpillStore.told c.loop-number.store) c.loop-number.reached.states n = c.read_next.ensures.damaged n (search rules) in
    let number : n ≡ c.loop-number.number = d.number ∙ sym i.count in
    let first = c.held-number-end.ensures in
    omega (arith, number, first, c.loop-number-test.true)

pub returns-in_err-file-clause-calm : goal.returns-in_err-file-clause-calm
returns-in_err-file-clause-calm g c = λ h. c.read_next.ensures.calm (λ e. h (search (rules, e))) ∙ c.loop-number.invariant.faults
