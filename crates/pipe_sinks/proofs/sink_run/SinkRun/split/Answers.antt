use Rattle.std.proofs.Common.{ap, List, map, ◌∙◌}
use Rattle.std.specs.declared.snapshot.Snapshot.{Snapshot}
use Rattle.pipe_columns.specs.declared.data_chunk.DataChunk.{DataChunk}
use Rattle.pipe_sinks.proofs.RunFacts.{run-new}
use Rattle.pipe_sinks.proofs.sink_run.SinkRun.split.Goals as goal

pub invariant_of-result : goal.invariant_of-result
invariant_of-result c =
    let run = c.self.invariant in
    run-new _ _ _ _ run.some run.few run.keyed (ap (λ (l : List (Snapshot DataChunk)). map (λ s. s.value) l) c.new-2.ensures.items)
    (c.in_ok-table.ensures.shape ∙ run.kept.shape) c.in_ok-table.ensures.groups
