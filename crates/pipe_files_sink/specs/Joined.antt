-- What joins frames for a writer.
use Rattle.std.specs.Prelude.{◌≡◌, ◌++◌, ◌<◌, ◌^◌, ℕ, List, Option, fold}
use Rattle.pipe_columns.specs.declared.data_chunk.DataChunk.{DataChunk}
use Rattle.pipe_columns.specs.declared.schema.Field.{Field}
use Rattle.pipe_columns.specs.Frame.{FitsSchema, FrameData}
use Rattle.pipe_lines.specs.Rows.{Row}
use Rattle.pipe_writers.specs.Vstacker.{VstackerData, left_waiting}
use Rattle.pipe_writers.specs.Waiting.{waiting_rows}

-- a frame that a writer of these fields takes: it fits, and its rows can be joined with others
pub record IsWritable (fields : List Field) (frame : FrameData) : Type 0 where
  pub fits : FitsSchema fields frame
  pub few : frame.height < 2 ^ 62

-- what waits after one more frame
abbrev pub then_waits : ℕ → Option FrameData → FrameData → Option FrameData
then_waits least waiting frame =
    let before : VstackerData = record { rows = least; waiting = waiting } in
    left_waiting before frame

-- what waits after the frames of chunks
abbrev pub waits_after : ℕ → Option FrameData → List DataChunk → Option FrameData
waits_after least waiting chunks = fold (λ before chunk. then_waits least before chunk.frame) waiting chunks

-- a writer has written rows since some bytes, but for those that wait
abbrev pub HasPut : (List Row → List ℕ → Type 0) → Option FrameData → List Row → List ℕ → Type 0
HasPut Stands waiting rows since =
    (done : List Row) × Stands done since × (done ++ waiting_rows waiting ≡ rows)
