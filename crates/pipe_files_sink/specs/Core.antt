-- What a writer core has taken and written.
use Rattle.std.specs.Prelude.{◌≡◌, ℕ, List, Bool, None, Option, flat_map}
use Rattle.pipe_columns.specs.declared.data_chunk.DataChunk.{DataChunk}
use Rattle.pipe_columns.specs.Frame.{FrameData}
use Rattle.pipe_plan.specs.Payloads.{full_pieces, rest_of}
use Rattle.pipe_writers.specs.declared.sink_writer.WriterCalls.{WriterCalls}
use Rattle.pipe_lines.specs.Rows.{Row}
use Rattle.pipe_writers.specs.WriteOrder.{rows_of_chunks, chunks_with_rows, written_piece}
use Rattle.pipe_files_sink.specs.Joined.{HasPut, waits_after}

-- a writer core: its writer, whether order is maintained, how many chunks are a piece, the chunks of
-- the piece that isn't full, how many rows are written together at least, the rows that wait for
-- more, and the calls that it had
pub record CoreSeen (Writer : Type 0) : Type 0 where
  pub writer : Writer
  pub maintain_order : Bool
  pub morsels : ℕ
  pub piece : List DataChunk
  pub least : ℕ
  pub waiting : Option FrameData
  pub calls : WriterCalls

-- the chunks of the full pieces, as they are written
abbrev pub full_order : List DataChunk → ℕ → Bool → List DataChunk
full_order chunks m maintain = flat_map (written_piece maintain) (full_pieces m (chunks_with_rows chunks))

-- chunks were taken since some bytes: those of full pieces are written but for the rows that wait,
-- and the others are the piece
pub record HasTaken {Writer : Type 0} (Stands : List Row → List ℕ → Type 0) (core : CoreSeen Writer)
    (chunks : List DataChunk) (since : List ℕ) : Type 0 where
  pub piece : core.piece ≡ rest_of core.morsels (chunks_with_rows chunks)
  pub waiting : core.waiting ≡ waits_after core.least None (full_order chunks core.morsels core.maintain_order)
  pub put : HasPut Stands core.waiting (rows_of_chunks (full_order chunks core.morsels core.maintain_order)) since
