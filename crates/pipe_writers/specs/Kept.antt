-- What sinks that keep chunks give.
use Rattle.std.specs.Prelude.{◌≡◌, ◌==◌, ◌&&◌, ◌||◌, ◌+◌, ◌^◌, ◌<◌, ℕ, List, [], ◌∷◌, Bool, Option, None, Some, IfSome, fold, length, nat_lt, sum_by, unwrap_or}
use Rattle.pipe_columns.specs.declared.data_chunk.DataChunk.{DataChunk}
use Rattle.pipe_columns.specs.declared.schema.Field.{Field}
use Rattle.pipe_columns.specs.Frame.{FitsSchema, FrameData, fields_of, frame_of, sliced_frame, stacked}
use Rattle.pipe_writers.specs.WriteOrder.{by_number, chunk_has_rows, chunks_with_rows}

-- the chunks that are kept: the first, and of the others those that have rows
abbrev pub chunks_kept : List DataChunk → List DataChunk
chunks_kept [] = []
chunks_kept (chunk ∷ rest) = chunk ∷ chunks_with_rows rest

-- a frame below what was gathered
abbrev pub with_frame_below : Option FrameData → FrameData → FrameData
with_frame_below None frame = frame
with_frame_below (Some first) frame = stacked first frame

-- the frames of chunks joined, in their order; none where there is no chunk
abbrev pub gathered : List DataChunk → Option FrameData
gathered chunks = fold (λ before chunk. Some (with_frame_below before chunk.frame)) None chunks

-- the frames of chunks joined; the empty frame of the fields where there is no chunk
abbrev pub joined_frames : List Field → List DataChunk → FrameData
joined_frames fields chunks = unwrap_or (gathered chunks) (frame_of fields [])

-- the frames of the kept chunks, joined by their numbers
abbrev pub ordered_frame : List Field → List DataChunk → FrameData
ordered_frame fields chunks = joined_frames fields (by_number (chunks_kept chunks))

-- so many rows of it are dropped, and so many of the rest kept at most
abbrev pub slice_of_ordered : ℕ → ℕ → List Field → List DataChunk → FrameData
slice_of_ordered offset len fields chunks = sliced_frame offset len (ordered_frame fields chunks)

-- how many rows chunks have
abbrev pub row_count : List DataChunk → ℕ
row_count chunks = sum_by (λ chunk. chunk.frame.height) chunks

-- what a sink that keeps chunks is seen as: the fields of its frames, and the chunks kept so far
pub record KeptData : Type 0 where
  pub fields : List Field
  pub chunks : List DataChunk

-- the same without a chunk
abbrev pub emptied : KeptData → KeptData
emptied k = record k { chunks = [] }

-- whether one more chunk is kept: where it has rows, or none is kept
abbrev pub keeps_chunk : List DataChunk → DataChunk → Bool
keeps_chunk chunks chunk = (length chunks == 0) || chunk_has_rows chunk

-- one more chunk is taken: it fits, and all rows have a number
pub record TakesChunk (k : KeptData) (chunk : DataChunk) : Type 0 where
  pub fits : FitsSchema k.fields chunk.frame
  pub few : row_count k.chunks + chunk.frame.height < 2 ^ 64

-- what was kept apart is taken over: of the same fields, and all rows have a number
pub record TakesOver (k other : KeptData) : Type 0 where
  pub fields : other.fields ≡ k.fields
  pub few : row_count k.chunks + row_count other.chunks < 2 ^ 64

-- a frame goes below what was gathered: of the same fields, and all rows have a number
pub record Stacks (first frame : FrameData) : Type 0 where
  pub fields : fields_of frame.columns ≡ fields_of first.columns
  pub few : first.height + frame.height < 2 ^ 64

-- the same where something was gathered
abbrev pub StacksOn : Option FrameData → FrameData → Type 0
StacksOn before frame = IfSome before (λ first. Stacks first frame)

-- whether chunks have more rows than a slice reaches over
abbrev pub is_past : ℕ → ℕ → List DataChunk → Bool
is_past offset len chunks = nat_lt (offset + len) (row_count chunks)

-- whether one more chunk is kept where a slice needed no more
abbrev pub is_beyond : ℕ → ℕ → List DataChunk → DataChunk → Bool
is_beyond offset len chunks chunk = keeps_chunk chunks chunk && is_past offset len chunks
