-- The rows of a text whose columns are found by their names, in its own header.
use Rattle.std.specs.Prelude.{ℕ, ◌+◌, ◌==◌, ◌||◌, Bool, false, List, [], ◌∷◌, length, map, get_or, Option, Some, None, if◌then◌else◌, Result, Ok, Err}
use Rattle.std.specs.Option.{ok_or}
use Rattle.std.specs.Str.{bytes_eq}
use Rattle.csv.specs.Reading.{default_config, records, strip_bom}
use Rattle.pipe_columns.specs.declared.any_value.AnyValue.{AnyValue}
use Rattle.pipe_columns.specs.declared.schema.Field.{Field}
use Rattle.pipe_csv.specs.CsvRows.{Misfit, after, field, header, read_fields, width}
use Rattle.pipe_source.specs.CsvChunks.{wanted_of}

-- whether some field of a header is a name
abbrev pub has_name : List ℕ → List (List ℕ) → Bool
has_name name [] = false
has_name name (t ∷ ts) = bytes_eq name t || has_name name ts

-- the place of the one field of a header that is a name, counted from one on
abbrev pub place_of : List ℕ → ℕ → List (List ℕ) → Option ℕ
place_of name i [] = None
place_of name i (t ∷ ts) =
    if bytes_eq name t then (if has_name name ts then None else Some i)
    else place_of name (i + 1) ts

-- in the header of a file, which is no row, a column isn't there once
abbrev pub not_once : ℕ → ℕ → Misfit
not_once file column = field file 0 column

-- the places of columns in a header, from a column on, or the first that isn't there once
abbrev pub places_of : ℕ → ℕ → List Field → List (List ℕ) → Result (List ℕ) Misfit
places_of file column [] names = Ok []
places_of file column (c ∷ cs) names =
    after (ok_or (place_of c.name 0 names) (not_once file column))
    (places_of file (column + 1) cs names)

-- the fields of a record at places
abbrev pub fields_at : List ℕ → List (List ℕ) → List (List ℕ)
fields_at places texts = map (λ place. get_or texts place []) places

-- the values of a row of so many fields, of which the columns stand at places
abbrev pub named_row :
    ℕ → ℕ → List Field → ℕ → List ℕ → List (List ℕ) → Result (List AnyValue) Misfit
named_row file row columns count places texts =
    if length texts == count then read_fields file row 1 columns (fields_at places texts)
    else Err (width file row)

-- the values of such rows, from a row on
abbrev pub named_rows :
    ℕ → ℕ → List Field → ℕ → List ℕ → List (List (List ℕ))
    → Result (List (List AnyValue)) Misfit
named_rows file row columns count places [] = Ok []
named_rows file row columns count places (r ∷ rs) =
    after (named_row file row columns count places r)
    (named_rows file (row + 1) columns count places rs)

-- rows behind a header of so many names, in which the columns have places
abbrev pub rows_behind :
    ℕ → List Field → ℕ → Result (List ℕ) Misfit → List (List (List ℕ))
    → Result (List (List AnyValue)) Misfit
rows_behind file columns count (Err m) rs = Err m
rows_behind file columns count (Ok places) rs = named_rows file 1 columns count places rs

-- the wanted rows of records, the first of which is the header; the others aren't looked at
abbrev pub wanted_named_rows :
    ℕ → Option ℕ → List Field → List (List (List ℕ)) → Result (List (List AnyValue)) Misfit
wanted_named_rows file wanted columns [] = Err (header file)
wanted_named_rows file wanted columns (names ∷ rs) =
    rows_behind file columns (length names) (places_of file 1 columns names)
    (wanted_of wanted rs)

-- the wanted rows of the text of a file
abbrev pub named_text_rows :
    ℕ → Option ℕ → List Field → List ℕ → Result (List (List AnyValue)) Misfit
named_text_rows file wanted columns text =
    wanted_named_rows file wanted columns (records default_config (strip_bom text))
