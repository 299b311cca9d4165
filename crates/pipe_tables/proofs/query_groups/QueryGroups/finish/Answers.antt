use Rattle.std.proofs.Common.{◌≡◌, ◌∙◌, List, map, ap}
use Rattle.std.proofs.lemmas.Result.{IfOk-weaker}
use Rattle.std.specs.declared.snapshot.Snapshot.{Snapshot}
use Rattle.pipe_columns.specs.declared.data_chunk.DataChunk.{DataChunk}
use Rattle.pipe_columns.specs.Frame.{FrameData}
use Rattle.pipe_aggs.specs.QueryTrees.{query_tree}
use Rattle.pipe_model.specs.Answer.{answer}
use Rattle.pipe_tables.specs.Taken.{QueryRun}
use Rattle.pipe_tables.proofs.query_groups.QueryGroups.finish.Goals as goal

-- the answer over the chunks that marks stand for
abbrev answered : QueryRun → FrameData
answered r = answer r.taken (query_tree r.query) 1

pub returns : goal.returns
returns c =
    let q = query_tree c.self.inside.query.now in
    let read = ap (λ (marks : List (Snapshot DataChunk)). answer (map (λ s. s.value) marks) q 1) c.deref.ensures.value in
    IfOk-weaker c.answer_of.result (λ (f : FrameData). f ≡ answer (map (λ s. s.value) c.deref.result.now) q 1) (λ (f : FrameData). f ≡ answered c.args.self)
    (λ f is. is ∙ read ∙ ap answered c.self.view_is) c.answer_of.ensures
