-- Columns that are wanted, and schemas, frames and chunks of these alone.
use Rattle.std.specs.Prelude.{ℕ, Bool, true, List, [], ◌∷◌, map, slice_get, unwrap_or, if◌then◌else◌}
use Rattle.pipe_columns.specs.declared.data_chunk.DataChunk.{DataChunk}
use Rattle.pipe_columns.specs.Frame.{FrameData}

-- of a list those that are wanted, in order; what stands past the end of `wanted` is wanted
abbrev pub chosen : {A : Type 0} → List Bool → List A → List A
chosen [] xs = xs
chosen (w ∷ ws) [] = []
chosen (w ∷ ws) (x ∷ xs) = if w then x ∷ chosen ws xs else chosen ws xs

-- whether what stands at a place is wanted
abbrev pub is_wanted : List Bool → ℕ → Bool
is_wanted wanted i = unwrap_or (slice_get wanted i) true

-- a frame of its wanted columns
abbrev pub narrowed_frame : List Bool → FrameData → FrameData
narrowed_frame wanted frame =
    record { height = frame.height; columns = chosen wanted frame.columns }

-- a chunk of its wanted columns
abbrev pub narrowed_chunk : List Bool → DataChunk → DataChunk
narrowed_chunk wanted c =
    record { chunk_index = c.chunk_index; frame = narrowed_frame wanted c.frame }

-- chunks of their wanted columns
abbrev pub narrowed_chunks : List Bool → List DataChunk → List DataChunk
narrowed_chunks wanted chunks = map (narrowed_chunk wanted) chunks
