-- The rows of frames.
use Rattle.std.specs.Prelude.{List, map}
use Rattle.std.specs.List.{range_with_len}
use Rattle.pipe_columns.specs.declared.any_value.AnyValue.{AnyValue}
use Rattle.pipe_columns.specs.declared.schema.Field.{Field}
use Rattle.pipe_columns.specs.Frame.{FrameData, row_at}
use Rattle.std.specs.Prelude.{ℕ}

-- a row: its value in each column
abbrev pub Row : Type 0
Row = List AnyValue

-- the rows of a frame, in order
abbrev pub frame_rows : FrameData → List Row
frame_rows frame = map (row_at frame.columns) (range_with_len 0 frame.height)

-- the names of fields
abbrev pub names_of : List Field → List (List ℕ)
names_of fields = map (λ f. f.name) fields
