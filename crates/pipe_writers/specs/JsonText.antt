-- Rows as lines of JSON.
use Rattle.std.specs.Prelude.{ℕ, List, [], ◌∷◌, ◌++◌, Bool, true, false, codes, map, flat_map, if◌then◌else◌}
use Rattle.std.specs.Fmt.{signed_decimal}
use Rattle.serde_json.specs.Data.{string}
use Rattle.serde_json.specs.Written.{compact_text}
use Rattle.pipe_columns.specs.declared.any_value.AnyValue.{AnyValue}
use Rattle.pipe_columns.specs.declared.any_value.AnyValue.TheVariants as av
use Rattle.pipe_columns.specs.Frame.{FrameData}
use Rattle.pipe_columns.specs.declared.schema.Field.{Field}
use Rattle.pipe_lines.specs.Lines.{LineText}
use Rattle.pipe_lines.specs.Rows.{Row, frame_rows, names_of}

-- a text as a JSON string, with the escapes of `serde_json`
abbrev pub json_string : List ℕ → List ℕ
json_string s = compact_text (string s)

-- the JSON of a value
abbrev pub json_value : AnyValue → List ℕ
json_value av.Null = codes "null"
json_value (av.Boolean b) = if b then codes "true" else codes "false"
json_value (av.Int n) = signed_decimal n
json_value (av.Text s) = json_string s

-- what stands before the value of a column: a comma behind another member, the name, a colon
abbrev pub member_head : Bool → List ℕ → List ℕ
member_head later name = (if later then codes "," else []) ++ (json_string name ++ codes ":")

-- the members of an object: names with their values
abbrev pub json_members : Bool → List (List ℕ) → Row → List ℕ
json_members later [] values = []
json_members later (name ∷ names) [] = []
json_members later (name ∷ names) (value ∷ values) =
    member_head later name ++ (json_value value ++ json_members true names values)

-- the line of a row: an object whose members are the columns in order
abbrev pub json_line : List (List ℕ) → Row → List ℕ
json_line names row = codes "{" ++ (json_members false names row ++ codes "}\n")

-- the lines of rows under names of columns
abbrev pub json_lines : List (List ℕ) → List Row → List ℕ
json_lines names rows = flat_map (json_line names) rows

-- a line for each row of a frame
abbrev pub json_text : FrameData → List ℕ
json_text frame = json_lines (map (λ c. c.name) frame.columns) (frame_rows frame)

-- how rows of some fields become lines of JSON
abbrev pub json_shape : List Field → LineText
json_shape fields = record { fields = fields; head = []; line = json_line (names_of fields) }
