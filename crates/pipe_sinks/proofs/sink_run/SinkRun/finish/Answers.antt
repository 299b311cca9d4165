use Rattle.std.proofs.Common.{◌≡◌, ◌∙◌, List, ap, subst}
use Rattle.std.specs.declared.snapshot.Snapshot.{Snapshot}
use Rattle.pipe_columns.specs.declared.data_chunk.DataChunk.{DataChunk}
use Rattle.pipe_aggs.specs.QueryTrees.{query_tree}
use Rattle.pipe_model.specs.Answer.{answer_of}
use Rattle.pipe_sinks.specs.Runs.{placed_rows, Run}
use Rattle.pipe_sinks.proofs.MarkFacts.{marked}
use Rattle.pipe_sinks.proofs.RunFacts.{run-given}
use Rattle.pipe_sinks.proofs.sink_run.SinkRun.finish.Goals as goal

pub invariant_of-self-2 : goal.invariant_of-self-2
invariant_of-self-2 c =
    run-given _ _ (marked c.self.inside.taken.items) c.self.inside.table c.self.invariant c.answer.new.table _ c.in_ok-frame.ensures.emptied (ap marked c.clear.ensures.items)

pub returns-clause-answer : goal.returns-clause-answer
returns-clause-answer c =
    let A : List (Snapshot DataChunk) → Type 0 = λ l. c.in_ok-frame.frame ≡ answer_of (placed_rows (query_tree c.self.inside.query.now) (marked l)) (query_tree c.self.inside.query.now) c.self.inside.partitions in
    let seen = ap (λ (r : Run). answer_of (placed_rows (query_tree r.query) r.taken) (query_tree r.query) r.partitions) c.self.view_is in
    subst A c.deref.ensures.value c.in_ok-frame.ensures.answer ∙ seen
