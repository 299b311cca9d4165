-- Of the proofs alone: a thread's part in a round of typed sinks.
use Rattle.std.specs.Prelude.{◌≡◌, ◌<◌, ◌++◌, ℕ, Bool, false, List, length}
use Rattle.pipe_columns.specs.declared.data_chunk.DataChunk.{DataChunk}
use Rattle.pipe_aggs.specs.QueryTrees.{query_tree}
use Rattle.pipe_model.specs.Rows.{AreChunksOf}
use Rattle.pipe_sinks.specs.Runs.{Run}
use Rattle.pipe_group_by.specs.Positions.{numbered, turns_of}

-- a worker's sink, and whether it was refused a chunk
pub record SinkJobSeen : Type 0 where
  pub sink : Run
  pub refused : Bool

-- a sink before its round
abbrev pub sink_job : Run → SinkJobSeen
sink_job s = record { sink = s; refused = false }

-- a worker's sink may take its turns of a round: it has taken those before, the round's chunks have their
-- positions, and its query may be asked of all
pub record MayWork (workers w : ℕ) (before chunks : List DataChunk) (s : Run) : Type 0 where
  pub some : 0 < workers
  pub positions : numbered (length before) chunks ≡ chunks
  pub asked : AreChunksOf (query_tree s.query) (before ++ chunks)
  pub ready : s.taken ≡ turns_of workers w before
