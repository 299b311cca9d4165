use Rattle.std.proofs.Common.{◌≡◌, ◌+◌, ◌++◌, ℕ, List, sym, subst}
use Rattle.pipe_aggs.specs.declared.query.Query.{Query}
use Rattle.pipe_columns.specs.declared.data_chunk.DataChunk.{DataChunk}
use Rattle.pipe_model.specs.Rows.{total_height}
use Rattle.pipe_saving.specs.Refusals.{AllFit}
use Rattle.pipe_summary.specs.Additions.{AddingSeen, AreFewBehind}
use Rattle.pipe_summary.specs.Held.{IsAdding}
use Rattle.pipe_summary.proofs.AddFacts.{adding-more}
use Rattle.pipe_summary.proofs.adding.Adding.feed_all.Goals as goal

pub invariant_of-result : goal.invariant_of-result
invariant_of-result c =
    let before = c.self.inside.saving in
    let now = c.in_ok-saving.saving in
    let e = c.in_ok-saving.ensures in
    let chunks : List DataChunk = c.args.chunks.now in
    let fit : AllFit before.query.schema chunks = subst (λ (a : AddingSeen). AllFit a.query.schema chunks) (sym c.self.view_is) c.requires.fit in
    let few : AreFewBehind c.self.inside.before before.first (before.taken ++ chunks) =
    subst (λ (a : AddingSeen). AreFewBehind a.rows a.first (a.taken ++ chunks)) (sym c.self.view_is) c.requires.few in
    let more : c.in-Some.rows ≡ c.self.inside.rows + total_height chunks = c.in-Some.ensures.some in
    subst (λ (q : Query). IsAdding q.schema c.self.inside.before now.first now.taken c.in-Some.rows) (sym e.query)
    (subst (λ (n : ℕ). IsAdding before.query.schema c.self.inside.before n now.taken c.in-Some.rows) (sym e.first)
    (subst (λ (l : List DataChunk). IsAdding before.query.schema c.self.inside.before before.first l c.in-Some.rows) (sym e.taken)
    (adding-more before.query.schema c.self.inside.before before.first before.taken chunks c.self.inside.rows c.in-Some.rows c.self.invariant fit few more)))
