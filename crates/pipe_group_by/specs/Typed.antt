-- Runs of typed sinks.
use Rattle.std.specs.Prelude.{◌≡◌, ℕ, false, List, [], replicate}
use Rattle.pipe_columns.specs.declared.data_chunk.DataChunk.{DataChunk}
use Rattle.pipe_lines.specs.Lines.{joined_texts, lines_of, LineText}
use Rattle.pipe_aggs.specs.QueryTrees.{query_tree}
use Rattle.pipe_model.specs.Rows.{AreChunksOf, total_height}
use Rattle.pipe_plan.specs.declared.event.PartitionEvent.{PartitionEvent}
use Rattle.pipe_plan.specs.Run.{is_generic}
use Rattle.pipe_sinks.specs.Runs.{Run}
use Rattle.pipe_run.specs.declared.output.GroupByOutput.{GroupByOutput}
use Rattle.pipe_run.specs.declared.output.TextOutput.{TextOutput}
use Rattle.pipe_run.specs.Fed.{FedSeen}
use Rattle.pipe_run.specs.Setting.{Setting}
use Rattle.pipe_run.specs.WholeRun.{CanBegin}
use Rattle.pipe_group_by.specs.Taken.{HaveTaken}

-- the journals of so many partitions, none with an event
abbrev pub no_journals : ℕ → List (List PartitionEvent)
no_journals partitions = replicate partitions []

-- a run of typed sinks as contracts see it: no event was made, and the stores are untouched
abbrev pub typed_seen : Setting → List DataChunk → FedSeen
typed_seen x chunks = record {
  setting = x;
  chunks = chunks;
  journals = no_journals x.limits.partitions;
  stores = x.stores;
}

-- a run of typed sinks keeps that it could be begun, that its query may be asked of its chunks, how many
-- rows they have, and that each worker's sink has taken its turns of them
pub record IsTypedRun (x : Setting) (chunks : List DataChunk) (sinks : List Run) (rows : ℕ)
    : Type 0 where
  pub typed : is_generic x.limits.sink ≡ false
  pub begin : CanBegin x
  pub chunks_are : AreChunksOf (query_tree x.query) chunks
  pub rows_are : rows ≡ total_height chunks
  pub sinks_are : HaveTaken x.query x.limits.partitions x.limits.workers chunks sinks

-- what a run gives as text is what it gave with a frame, with the lines of its rows
pub record IsTextOf (t : LineText) (out : GroupByOutput) (text : TextOutput) : Type 0 where
  pub lines : joined_texts text.text.texts.items ≡ lines_of t out.frame
  pub height : text.text.height ≡ out.frame.height
  pub journals : text.journals ≡ out.journals
  pub overflow : text.overflow ≡ out.overflow
