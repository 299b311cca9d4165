-- Of the proofs alone: room for the rows of frames that are joined.
use Rattle.std.specs.Prelude.{◌≤◌, ◌≡◌, ℕ, List, false, fold, length, map}
use Rattle.std.specs.List.{All}
use Rattle.pipe_columns.specs.declared.data_chunk.DataChunk.{DataChunk}
use Rattle.pipe_columns.specs.declared.any_value.AnyValue.{AnyValue}
use Rattle.pipe_columns.specs.declared.schema.Field.{Field}
use Rattle.pipe_columns.specs.Frame.{AllHaveHeight, ColumnData, FrameData, stacked}

-- a column that is filled: its field, its values so far, and how many it has room for in all
pub record ColumnRoomData : Type 0 where
  pub field : Field
  pub values : List AnyValue
  pub room : ℕ

-- the column of the values so far
abbrev pub filled_column : ColumnRoomData → ColumnData
filled_column r = record {
  name = r.field.name;
  dtype = r.field.dtype;
  sorted = false;
  values = r.values;
}

-- the columns of the values so far
abbrev pub filled_columns : List ColumnRoomData → List ColumnData
filled_columns rooms = map filled_column rooms

-- there is room for so many values in all
abbrev pub HasRoom : ℕ → ColumnRoomData → Type 0
HasRoom most r = most ≤ r.room

-- what is filled with frames: the frame so far, and how many rows it has room for in all
pub record FrameRoomData : Type 0 where
  pub frame : FrameData
  pub most : ℕ

-- its columns have its height and its room, and those that are made of them a place each
pub record IsFrameRoom (rooms : List ColumnRoomData) (height most count room : ℕ) : Type 0 where
  pub tall : AllHaveHeight height (filled_columns rooms)
  pub wide : All (HasRoom most) rooms
  pub none : count ≡ 0
  pub places : length rooms ≤ room

-- a frame with the rows of chunks below its own, in their order
abbrev pub all_stacked : FrameData → List DataChunk → FrameData
all_stacked frame chunks = fold (λ f chunk. stacked f chunk.frame) frame chunks
