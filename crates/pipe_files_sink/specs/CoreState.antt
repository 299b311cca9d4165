-- Of the proofs alone: what a writer core keeps.
use Rattle.std.specs.Prelude.{◌<◌, ℕ, List}
use Rattle.std.specs.List.{All}
use Rattle.pipe_columns.specs.declared.data_chunk.DataChunk.{DataChunk}
use Rattle.pipe_columns.specs.declared.schema.Field.{Field}
use Rattle.pipe_writers.specs.declared.sink_writer.WriterCalls.{WriterCalls}
use Rattle.pipe_writers.specs.Writers.{IsOpen}
use Rattle.pipe_files_sink.specs.Joined.{IsWritable}

-- chunks that a writer of these fields takes
abbrev pub AreWritable : List Field → List DataChunk → Type 0
AreWritable fields chunks = All (λ c. IsWritable fields c.frame) chunks

-- a core's pieces aren't empty, what it keeps can be written, and its writer is open as long as the
-- core is
pub record IsCore (fields : List Field) (morsels : ℕ) (piece : List DataChunk) (calls writer : WriterCalls) : Type 0 where
  pub some : 0 < morsels
  pub fit : AreWritable fields piece
  pub runs : IsOpen calls → IsOpen writer
