-- The bytes of a spill frame, and which bytes are none.
use Rattle.std.specs.Prelude.{◌≢◌, ℕ, List, [], ◌∷◌, ◌++◌, length}
use Rattle.std.specs.Int.{bytes_high_first}
use Rattle.pipe_columns.specs.declared.data_type.DataType.{DataType}
use Rattle.pipe_columns.specs.Key.{code}
use Rattle.pipe_spill.specs.SpillRow.{AreRows}
use Rattle.pipe_spill.specs.declared.spill_row.SpillRow.{SpillRow}

-- chunk and row, the length of the key, the key, and the inputs by their types
abbrev pub row_bytes : List DataType → SpillRow → List ℕ
row_bytes types r =
    bytes_high_first 4 r.place.chunk ++ bytes_high_first 4 r.place.row
    ++ bytes_high_first 8 (length r.key) ++ r.key ++ code types r.values

-- rows one after another
abbrev pub rows_bytes : List DataType → List SpillRow → List ℕ
rows_bytes types [] = []
rows_bytes types (r ∷ rows) = row_bytes types r ++ rows_bytes types rows

-- the number of rows, and the rows
abbrev pub frame_bytes : List DataType → List SpillRow → List ℕ
frame_bytes types rows = bytes_high_first 8 (length rows) ++ rows_bytes types rows

-- bytes are the frame of no list of rows of these types
abbrev pub IsFrameOfNone : List DataType → List DataType → List ℕ → Type 0
IsFrameOfNone key_types input_types bytes =
    (rows : List SpillRow) → AreRows key_types input_types rows
    → frame_bytes input_types rows ≢ bytes
