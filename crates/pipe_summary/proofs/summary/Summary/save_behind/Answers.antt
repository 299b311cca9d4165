use Rattle.std.proofs.Common.{rules, ◌≡◌, ◌∙◌, ◌+◌, ◌<◌, ◌^◌, ◌∷◌, ◌++◌, ℕ, [], List, sym, ap, subst}
use Rattle.pipe_aggs.specs.QueryTrees.{query_tree}
use Rattle.pipe_aggs.specs.declared.query.Query.{Query}
use Rattle.pipe_columns.specs.declared.data_chunk.DataChunk.{DataChunk}
use Rattle.pipe_model.specs.Query.{QueryTree}
use Rattle.pipe_model.specs.Rows.{total_height}
use Rattle.pipe_states.specs.Fair.{IsStateOf}
use Rattle.pipe_states.specs.Files.{IsFairStateOf}
use Rattle.pipe_states.specs.Parts.{part_of, saved}
use Rattle.pipe_states.specs.States.{StateSeen}
use Rattle.pipe_states.specs.Together.{total_rows}
use Rattle.pipe_summary.specs.Additions.{state_behind}
use Rattle.pipe_summary.specs.InTurn.{AreInTurn}
use Rattle.pipe_summary.proofs.AddFacts.{few-of}
use Rattle.pipe_summary.proofs.HoldFacts.{behind-in_turn}
use Rattle.pipe_summary.proofs.summary.Summary.save_behind.Goals as goal

pub returns-then-few-clause-in_turn : goal.returns-then-few-clause-in_turn
returns-then-few-clause-in_turn g c =
    let chunks : List DataChunk = c.args.chunks.now in
    let states : List StateSeen = c.self.inside.reached.states in
    let q : QueryTree = query_tree c.self.inside.reached.query in
    let s : StateSeen = c.in-Ok.file in
    let same : query_tree c.query-query.result.now ≡ q = ap (λ (p : Query). query_tree p) c.query-query.ensures.query in
    let saved_is : s ≡ state_behind q states chunks =
    c.in-Ok.ensures.state ∙ ap (λ (p : QueryTree). saved p (part_of p c.end.result chunks)) same ∙ ap (λ (n : ℕ). saved q (part_of q n chunks)) c.end.ensures in
    let fair : IsFairStateOf q s = record { fair = c.end-known.ensures.fair; of_query = subst (λ (p : QueryTree). IsStateOf p s) same c.in-Ok.ensures.of_query } in
    let counted : total_rows states + total_height chunks < 2 ^ 32 =
    let n : ℕ = c.from.result + total_height chunks in
    let low : n < 2 ^ 32 = few-of c.rows_behind.result n (sym c.is_some-few.ensures ∙ c.if-few.true) c.rows_behind.ensures.some c.rows_behind.ensures.few in
    let rows : c.from.result ≡ total_rows states = search rules in
    subst (λ (m : ℕ). m + total_height chunks < 2 ^ 32) rows low in
    let turn : AreInTurn q (states ++ s ∷ []) =
    subst (λ (t : StateSeen). AreInTurn q (states ++ t ∷ [])) (sym saved_is)
    (behind-in_turn q states chunks c.query-query.ensures.in_turn c.requires (subst (IsFairStateOf q) saved_is fair) counted) in
    subst (λ v. AreInTurn (query_tree v.query) (v.states ++ s ∷ [])) c.self.view_is turn
