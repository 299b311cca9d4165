-- What sinks take and sources give.
use Rattle.std.specs.Prelude.{◌≡◌, List, [], length, take, drop}
use Rattle.pipe_columns.specs.declared.data_chunk.DataChunk.{DataChunk}
use Rattle.pipe_columns.specs.declared.sink.FinalizedSink.{FinalizedSink}
use Rattle.pipe_columns.specs.declared.sink.FinalizedSink.TheVariants as finalized
use Rattle.pipe_columns.specs.declared.source.SourceResult.{SourceResult}
use Rattle.pipe_columns.specs.declared.source.SourceResult.TheVariants as source
use Rattle.pipe_columns.specs.Frame.{FrameData}

-- the frame that a sink gives
abbrev pub frame_given : FinalizedSink → FrameData
frame_given (finalized.Finished frame) = frame

-- of some chunks the first are those given, and the others are left
pub record AreFirst (given chunks : List DataChunk) (Left : List DataChunk → Type 0) : Type 0 where
  pub first : take (length given) chunks ≡ given
  pub others : Left (drop (length given) chunks)

-- whatever chunks were left, the source gave the first of them, and all once it is finished
abbrev pub GaveFirst : SourceResult → (List DataChunk → Type 0) → (List DataChunk → Type 0) → Type 0
GaveFirst source.Finished Before After = (chunks : List DataChunk) → Before chunks → chunks ≡ []
GaveFirst (source.GotMoreData more) Before After =
    (chunks : List DataChunk) → Before chunks → AreFirst more.items chunks After
