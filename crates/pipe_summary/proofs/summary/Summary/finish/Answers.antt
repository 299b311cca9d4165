use Rattle.std.proofs.Common.{◌≡◌, ◌∙◌, ◌≤◌, ◌+◌, ◌<◌, ◌^◌, ◌∷◌, ◌++◌, ℕ, [], List, length, sym, ap, subst}
use Rattle.pipe_aggs.specs.QueryTrees.{query_tree}
use Rattle.pipe_aggs.specs.declared.query.Query.{Query}
use Rattle.pipe_columns.specs.declared.data_chunk.DataChunk.{DataChunk}
use Rattle.pipe_model.specs.Query.{QueryTree}
use Rattle.pipe_model.specs.Rows.{total_height}
use Rattle.pipe_states.specs.Fair.{IsStateOf}
use Rattle.pipe_states.specs.Files.{IsFairStateOf}
use Rattle.pipe_states.specs.Parts.{part_of, saved}
use Rattle.pipe_states.specs.States.{StateSeen}
use Rattle.pipe_states.specs.Together.{total_rows}
use Rattle.pipe_summary.specs.Additions.{state_behind}
use Rattle.pipe_summary.specs.InTurn.{AreInTurn}
use Rattle.pipe_summary.proofs.HoldFacts.{added-none, added-some, behind-in_turn, none-taken, some-taken}
use Rattle.pipe_summary.proofs.summary.Summary.finish.Goals as goal

pub returns-in_default-clause-holds : goal.returns-in_default-clause-holds
returns-in_default-clause-holds g c = c.recall.ensures.holds

pub returns-then-first-end-clause-stands : goal.returns-then-first-end-clause-stands
returns-then-first-end-clause-stands g c =
    let empty : c.in-Ok.file.first ≡ c.in-Ok.file.end = sym c.first.ensures.first ∙ c.if-first-end.true ∙ c.end.ensures.end in
    let none : c.args.adding.taken ≡ [] = none-taken (query_tree c.args.adding.query) c.in-Ok.file c.args.adding.first c.args.adding.taken c.in-Ok.ensures.state empty in
    (added-none (query_tree c.args.self.now.query) (g.S.SpillStore.told c.args.self.now.store) c.args.self.now.states c.args.adding.taken none).stands

pub returns-then-first-end-clause-holds : goal.returns-then-first-end-clause-holds
returns-then-first-end-clause-holds g c = c.recall.ensures.holds

-- the state is that of the chunks behind those held
pub put_state-requires : goal.put_state-requires
put_state-requires g c =
    let q : QueryTree = query_tree c.args.self.now.query in
    let states : List StateSeen = c.args.self.now.states in
    let s : StateSeen = c.in-Ok.file in
    let taken : List DataChunk = c.args.adding.taken in
    let is : s ≡ state_behind q states taken =
    c.in-Ok.ensures.state ∙ ap (λ (p : Query). saved (query_tree p) (part_of (query_tree p) c.args.adding.first taken)) c.requires.query
    ∙ ap (λ (n : ℕ). saved q (part_of q n taken)) c.requires.first in
    let some : 1 ≤ length taken =
    some-taken (query_tree c.args.adding.query) s c.args.adding.first taken c.in-Ok.ensures.state (λ e. c.if-first-end.false (c.first.ensures.first ∙ e ∙ sym c.end.ensures.end)) in
    let fair : IsFairStateOf q s = record { fair = c.first.ensures.fair; of_query = subst (λ (p : Query). IsStateOf (query_tree p) s) c.requires.query c.in-Ok.ensures.of_query } in
    let few : total_rows states + total_height taken < 2 ^ 32 = subst (λ (n : ℕ). n + total_height taken < 2 ^ 32) c.requires.rows c.into_state.ensures.few.rows in
    subst (λ (t : StateSeen). AreInTurn q (states ++ t ∷ [])) (sym is) (behind-in_turn q states taken c.recall.ensures.holds.in_turn some (subst (IsFairStateOf q) is fair) few)

pub returns-in-Ok-put_state-clause-told : goal.returns-in-Ok-put_state-clause-told
returns-in-Ok-put_state-clause-told g c =
    let q : QueryTree = query_tree c.args.self.now.query in
    let states : List StateSeen = c.args.self.now.states in
    let s : StateSeen = c.in-Ok.file in
    let taken : List DataChunk = c.args.adding.taken in
    let is : s ≡ state_behind q states taken =
    c.in-Ok.ensures.state ∙ ap (λ (p : Query). saved (query_tree p) (part_of (query_tree p) c.args.adding.first taken)) c.requires.query
    ∙ ap (λ (n : ℕ). saved q (part_of q n taken)) c.requires.first in
    let some : 1 ≤ length taken =
    some-taken (query_tree c.args.adding.query) s c.args.adding.first taken c.in-Ok.ensures.state (λ e. c.if-first-end.false (c.first.ensures.first ∙ e ∙ sym c.end.ensures.end)) in
    (added-some q (g.S.SpillStore.told c.args.self.now.store) (g.S.SpillStore.told c.put_state.new.self.store) (g.S.SpillStore.held c.args.self.now.store) states c.put_state.new.self.states taken s c.recall.ensures.holds some is
    (subst (AreInTurn q) c.in-Ok-put_state.ensures.states c.put_state.ensures.holds.in_turn) c.in-Ok-put_state.ensures.states c.in-Ok-put_state.ensures.told).put

pub returns-in-Ok-put_state-clause-stands : goal.returns-in-Ok-put_state-clause-stands
returns-in-Ok-put_state-clause-stands g c =
    let q : QueryTree = query_tree c.args.self.now.query in
    let states : List StateSeen = c.args.self.now.states in
    let s : StateSeen = c.in-Ok.file in
    let taken : List DataChunk = c.args.adding.taken in
    let is : s ≡ state_behind q states taken =
    c.in-Ok.ensures.state ∙ ap (λ (p : Query). saved (query_tree p) (part_of (query_tree p) c.args.adding.first taken)) c.requires.query
    ∙ ap (λ (n : ℕ). saved q (part_of q n taken)) c.requires.first in
    let some : 1 ≤ length taken =
    some-taken (query_tree c.args.adding.query) s c.args.adding.first taken c.in-Ok.ensures.state (λ e. c.if-first-end.false (c.first.ensures.first ∙ e ∙ sym c.end.ensures.end)) in
    (added-some q (g.S.SpillStore.told c.args.self.now.store) (g.S.SpillStore.told c.put_state.new.self.store) (g.S.SpillStore.held c.args.self.now.store) states c.put_state.new.self.states taken s c.recall.ensures.holds some is
    (subst (AreInTurn q) c.in-Ok-put_state.ensures.states c.put_state.ensures.holds.in_turn) c.in-Ok-put_state.ensures.states c.in-Ok-put_state.ensures.told).stands
