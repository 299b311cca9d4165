-- The texts of shown rows.
use Rattle.std.specs.Prelude.{ℕ, List, [], ◌∷◌, ◌++◌, Bool, true, false, codes, map, flat_map}
use Rattle.pipe_columns.specs.declared.any_value.AnyValue.{AnyValue}
use Rattle.pipe_columns.specs.declared.any_value.AnyValue.TheVariants as av
use Rattle.pipe_csv.specs.Texts.{field_of, line_of}
use Rattle.pipe_lines.specs.Rows.{Row}
use Rattle.pipe_writers.specs.JsonText.{json_value, member_head}
use Rattle.lavzimo_rows.specs.declared.columns.Shows.{Shows}
use Rattle.lavzimo_rows.specs.declared.columns.Shows.TheVariants as shows
use Rattle.lavzimo_rows.specs.declared.columns.ShownColumn.{ShownColumn}
use Rattle.lavzimo_rows.specs.Columns.{shown_value}
use Rattle.lavzimo_rows.specs.Decimal.{decimal_text}
use Rattle.lavzimo_rows.specs.Shown.{ShownData, kept_rows}

-- the millionths of a mean as a decimal number, or what stands for none
abbrev pub mean_text : List ℕ → AnyValue → List ℕ
mean_text none av.Null = none
mean_text none (av.Boolean b) = none
mean_text none (av.Int n) = decimal_text n
mean_text none (av.Text s) = none

-- ---- CSV

-- the field of what a column shows: null is the empty field
abbrev pub csv_field : Shows → AnyValue → List ℕ
csv_field (shows.Value column) value = field_of value
csv_field (shows.Mean of) value = mean_text [] value

-- the fields of a row
abbrev pub csv_fields : List ShownColumn → Row → List (List ℕ)
csv_fields columns row = map (λ c. csv_field c.shows (shown_value c.shows row)) columns

-- the names of columns
abbrev pub column_names : List ShownColumn → List (List ℕ)
column_names columns = map (λ c. c.name) columns

-- the line of a row
abbrev pub csv_line : List ShownColumn → Row → List ℕ
csv_line columns row = line_of (csv_fields columns row)

-- a line of names, then a line for each row that is shown
abbrev pub csv_shown : ShownData → List Row → List ℕ
csv_shown s rows =
    line_of (column_names s.columns) ++ flat_map (csv_line s.columns) (kept_rows s rows)

-- ---- JSON

-- the JSON of what a column shows: a mean is a number
abbrev pub json_field : Shows → AnyValue → List ℕ
json_field (shows.Value column) value = json_value value
json_field (shows.Mean of) value = mean_text (codes "null") value

-- the members of a row's object
abbrev pub json_fields : Bool → List ShownColumn → Row → List ℕ
json_fields later [] row = []
json_fields later (c ∷ cs) row = member_head later c.name
    ++ (json_field c.shows (shown_value c.shows row) ++ json_fields true cs row)

-- the line of a row: an object whose members are the columns in order
abbrev pub json_line : List ShownColumn → Row → List ℕ
json_line columns row = codes "{" ++ (json_fields false columns row ++ codes "}\n")

-- a line for each row that is shown
abbrev pub json_shown : ShownData → List Row → List ℕ
json_shown s rows = flat_map (json_line s.columns) (kept_rows s rows)
