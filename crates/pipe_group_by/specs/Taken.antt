-- What the sinks of workers have taken of a run's chunks.
use Rattle.std.specs.Prelude.{◌≡◌, ◌<◌, ℕ, List, length, slice_index_or}
use Rattle.pipe_columns.specs.declared.data_chunk.DataChunk.{DataChunk}
use Rattle.pipe_aggs.specs.declared.query.Query.{Query}
use Rattle.pipe_sinks.specs.Runs.{Run}
use Rattle.pipe_group_by.specs.Positions.{turns_of}

-- the sink of a worker that has taken its turns of chunks
abbrev pub sink_after : Query → ℕ → ℕ → List DataChunk → ℕ → Run
sink_after q partitions workers chunks w =
    record { query = q; partitions = partitions; taken = turns_of workers w chunks }

-- the sinks of so many workers, in order, have taken their turns of chunks
pub record HaveTaken (q : Query) (partitions workers : ℕ) (chunks : List DataChunk)
    (sinks : List Run) : Type 0 where
  pub count : length sinks ≡ workers
  pub each : (w : ℕ) (d : Run) → w < length sinks
      → slice_index_or sinks w d ≡ sink_after q partitions workers chunks w
