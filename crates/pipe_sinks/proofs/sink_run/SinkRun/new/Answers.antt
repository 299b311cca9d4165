use Rattle.std.proofs.Common.{ap, arith, List, map}
use Rattle.std.specs.declared.snapshot.Snapshot.{Snapshot}
use Rattle.pipe_columns.specs.declared.data_chunk.DataChunk.{DataChunk}
use Rattle.pipe_sinks.proofs.RunFacts.{run-new}
use Rattle.pipe_sinks.proofs.sink_run.SinkRun.new.Goals as goal

pub invariant_of-result : goal.invariant_of-result
invariant_of-result c = run-new _ _ _ _ c.requires.some (omega arith) c.requires.key (ap (λ (l : List (Snapshot DataChunk)). map (λ s. s.value) l) c.new-3.ensures.items) c.in_ok-table.ensures.shape c.in_ok-table.ensures.groups
