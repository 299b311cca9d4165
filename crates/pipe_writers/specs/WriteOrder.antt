-- The order in which chunks are written.
use Rattle.std.specs.Prelude.{◌==◌, ℕ, List, [], ◌∷◌, Bool, not, filter, flat_map, nat_le, if◌then◌else◌}
use Rattle.pipe_columns.specs.declared.data_chunk.DataChunk.{DataChunk}
use Rattle.pipe_columns.specs.Pieces.{pieces}
use Rattle.pipe_lines.specs.Rows.{Row, frame_rows}

-- whether a chunk has a row
abbrev pub chunk_has_rows : DataChunk → Bool
chunk_has_rows chunk = not (chunk.frame.height == 0)

-- the chunks that have rows
abbrev pub chunks_with_rows : List DataChunk → List DataChunk
chunks_with_rows chunks = filter chunk_has_rows chunks

-- a chunk put in before the first one whose number isn't lower
abbrev pub put_in : DataChunk → List DataChunk → List DataChunk
put_in chunk [] = chunk ∷ []
put_in chunk (first ∷ rest) =
    if nat_le chunk.chunk_index first.chunk_index then chunk ∷ first ∷ rest
    else first ∷ put_in chunk rest

-- chunks by their numbers; those of one number stay in the order that they have
abbrev pub by_number : List DataChunk → List DataChunk
by_number [] = []
by_number (chunk ∷ rest) = put_in chunk (by_number rest)

-- a piece as it is written: by number where order is maintained
abbrev pub written_piece : Bool → List DataChunk → List DataChunk
written_piece maintain piece = if maintain then by_number piece else piece

-- the chunks that have rows, cut into pieces of m, each piece as it is written
abbrev pub write_order : List DataChunk → ℕ → Bool → List DataChunk
write_order chunks m maintain = flat_map (written_piece maintain) (pieces m (chunks_with_rows chunks))

-- the rows of chunks, in their order
abbrev pub rows_of_chunks : List DataChunk → List Row
rows_of_chunks chunks = flat_map (λ chunk. frame_rows chunk.frame) chunks
