-- The rows that are generated from a seed, cut into chunks.
use Rattle.std.specs.Prelude.{ℕ, ◌+◌, ◌-◌, ◌*◌, ◌/◌, ◌%◌, ◌^◌, List, [], ◌∷◌, codes, false, map, min, pos}
use Rattle.std.specs.List.{range_with_len}
use Rattle.pipe_columns.specs.declared.any_value.AnyValue.TheVariants as av
use Rattle.pipe_columns.specs.declared.data_chunk.DataChunk.{DataChunk}
use Rattle.pipe_columns.specs.declared.data_type.DataType.TheVariants as dt
use Rattle.pipe_columns.specs.Frame.{ColumnData, FrameData}
use Rattle.tool_made.specs.declared.made.Made.{Made}

-- the key of a generated row
abbrev pub made_key : ℕ → ℕ → ℕ
made_key seed i = (i * seed) % 1000

-- the value of a generated row
abbrev pub made_value : ℕ → ℕ
made_value i = i % 256

-- a column of a number in each of so many rows, from one on
abbrev pub numbers_column : List ℕ → (ℕ → ℕ) → ℕ → ℕ → ColumnData
numbers_column name number first count = record {
  name = name;
  dtype = dt.Int64;
  sorted = false;
  values = map (λ i. av.Int (pos (number i))) (range_with_len first count);
}

-- the columns of so many generated rows, from one on
abbrev pub made_frame : ℕ → ℕ → ℕ → FrameData
made_frame seed first count = record {
  height = count;
  columns = numbers_column (codes "k") (made_key seed) first count
      ∷ numbers_column (codes "v") made_value first count ∷ [];
}

-- the chunk at a position: the last one has what is left of the rows
abbrev pub made_chunk : Made → ℕ → DataChunk
made_chunk m i = record {
  chunk_index = i % 2 ^ 32;
  frame = made_frame m.seed (i * m.chunk) (min m.chunk (m.rows - i * m.chunk));
}

-- so many chunks, from a position on
abbrev pub made_from : Made → ℕ → ℕ → List DataChunk
made_from m first count = map (made_chunk m) (range_with_len first count)

-- how many chunks the rows make: the last one may have fewer rows
abbrev pub chunk_count : Made → ℕ
chunk_count m = m.rows / m.chunk + min 1 (m.rows % m.chunk)

-- all chunks of the rows that are generated
abbrev pub made : Made → List DataChunk
made m = made_from m 0 (chunk_count m)
