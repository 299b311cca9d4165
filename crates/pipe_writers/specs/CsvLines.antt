-- Rows as lines of CSV.
use Rattle.std.specs.Prelude.{ℕ, List, [], ◌++◌, Bool, map, flat_map, if◌then◌else◌}
use Rattle.pipe_csv.specs.Texts.{field_of, line_of}
use Rattle.pipe_columns.specs.declared.schema.Field.{Field}
use Rattle.pipe_lines.specs.Lines.{LineText}
use Rattle.pipe_lines.specs.Rows.{names_of, Row}

-- the line of a row
abbrev pub csv_line : Row → List ℕ
csv_line row = line_of (map field_of row)

-- the line of names, where it is wanted
abbrev pub csv_head : Bool → List (List ℕ) → List ℕ
csv_head header names = if header then line_of names else []

-- the lines of rows, behind that of the names where it is wanted
abbrev pub csv_lines : Bool → List (List ℕ) → List Row → List ℕ
csv_lines header names rows = csv_head header names ++ flat_map csv_line rows

-- how rows of some fields become CSV, behind the line of names where it is wanted
abbrev pub csv_shape : Bool → List Field → LineText
csv_shape header fields = record {
  fields = fields;
  head = csv_head header (names_of fields);
  line = csv_line;
}
