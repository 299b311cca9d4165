-- Why a feed was refused, and what it leaves of the stores.
use Rattle.std.specs.Prelude.{List, ◌++◌, ⊤}
use Rattle.pipe_columns.specs.declared.data_chunk.DataChunk.{DataChunk}
use Rattle.pipe_plan.specs.Run.{StoreSeen}
use Rattle.pipe_run.specs.declared.error.PipeError.{PipeError}
use Rattle.pipe_run.specs.declared.error.PipeError.TheVariants as error
use Rattle.pipe_run.specs.Failing.{IsFirstFailed, NoneFailed}
use Rattle.pipe_run.specs.Fed.{FedSeen}
use Rattle.pipe_run.specs.Refusals.{AllHaveFields, AreMany, CanFeed, IsFirstMisfit}

-- all chunks of a run with more of them
abbrev pub all_chunks : FedSeen → List DataChunk → List DataChunk
all_chunks s chunks = s.chunks ++ chunks

-- why a feed is refused: a chunk is the first that doesn't fit, counted over all rounds; or all fit and
-- are too many; or they can be fed, and the store that is named is the first whose faults rose in this
-- call; or no store's did, and memory ran out
abbrev pub IsFeedCause : FedSeen → List DataChunk → List StoreSeen → PipeError → Type 0
IsFeedCause s chunks stores (error.Schema i) =
    IsFirstMisfit s.setting.query.schema (all_chunks s chunks) i
IsFeedCause s chunks stores error.TooLarge =
    AllHaveFields s.setting.query.schema (all_chunks s chunks) × AreMany (all_chunks s chunks)
IsFeedCause s chunks stores (error.Store p) =
    CanFeed s.setting.query.schema (all_chunks s chunks) × IsFirstFailed s.stores stores p
IsFeedCause s chunks stores error.Memory = NoneFailed s.stores stores
IsFeedCause s chunks stores error.Limits = ⊥
IsFeedCause s chunks stores (error.Query f) = ⊥
IsFeedCause s chunks stores error.Sink = ⊥
IsFeedCause s chunks stores (error.Damaged p n) = ⊥

-- the chunks that a refused feed reached: none of its own where they can't be fed
abbrev pub chunks_reached : FedSeen → List DataChunk → PipeError → List DataChunk
chunks_reached s chunks (error.Schema i) = s.chunks
chunks_reached s chunks error.TooLarge = s.chunks
chunks_reached s chunks (error.Store p) = all_chunks s chunks
chunks_reached s chunks error.Memory = all_chunks s chunks
chunks_reached s chunks error.Limits = s.chunks
chunks_reached s chunks (error.Query f) = s.chunks
chunks_reached s chunks error.Sink = s.chunks
chunks_reached s chunks (error.Damaged p n) = s.chunks

-- a feed is refused for its chunks
abbrev pub IsBadChunks : PipeError → Type 0
IsBadChunks (error.Schema i) = ⊤
IsBadChunks error.TooLarge = ⊤
IsBadChunks (error.Store p) = ⊥
IsBadChunks error.Memory = ⊥
IsBadChunks error.Limits = ⊥
IsBadChunks (error.Query f) = ⊥
IsBadChunks error.Sink = ⊥
IsBadChunks (error.Damaged p n) = ⊥
