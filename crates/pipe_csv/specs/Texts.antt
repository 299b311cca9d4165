-- The text of a frame.
use Rattle.std.specs.Prelude.{ℕ, List, [], ◌++◌, map, codes, if◌then◌else◌}
use Rattle.std.specs.Fmt.{signed_decimal}
use Rattle.std.specs.List.{flat_map, range_with_len}
use Rattle.csv.specs.Writing.{default_writer, row_text}
use Rattle.pipe_columns.specs.declared.any_value.AnyValue.{AnyValue}
use Rattle.pipe_columns.specs.declared.any_value.AnyValue.TheVariants as av
use Rattle.pipe_columns.specs.Frame.{FrameData, row_at}

-- the field of a value: null is the empty field
abbrev pub field_of : AnyValue → List ℕ
field_of av.Null = []
field_of (av.Boolean b) = if b then codes "true" else codes "false"
field_of (av.Int n) = signed_decimal n
field_of (av.Text s) = s

-- the line of a list of fields
abbrev pub line_of : List (List ℕ) → List ℕ
line_of fields = row_text default_writer fields

-- the record of the names of columns
abbrev pub header_text : FrameData → List ℕ
header_text frame = line_of (map (λ c. c.name) frame.columns)

-- the record of each row
abbrev pub rows_text : FrameData → List ℕ
rows_text frame =
    flat_map (λ n. line_of (map field_of (row_at frame.columns n))) (range_with_len 0 frame.height)

-- the header, then a record for each row
abbrev pub csv_text : FrameData → List ℕ
csv_text frame = header_text frame ++ rows_text frame
