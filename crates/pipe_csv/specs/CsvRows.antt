-- The rows that records of CSV are, up to the first place that doesn't fit, and the frames of rows.
use Rattle.std.specs.Prelude.{ℕ, ◌+◌, ◌==◌, ◌&&◌, not, Bool, true, false, List, [], ◌∷◌, ◌++◌, length, map, if◌then◌else◌, Result, Ok, Err}
use Rattle.std.specs.Option.{ok_or}
use Rattle.std.specs.Str.{bytes_eq}
use Rattle.std.specs.Ordering.{is_lt}
use Rattle.pipe_columns.specs.declared.any_value.AnyValue.{AnyValue}
use Rattle.pipe_columns.specs.declared.schema.Field.{Field}
use Rattle.pipe_columns.specs.AnyValue.{value_cmp}
use Rattle.pipe_columns.specs.Frame.{ColumnData, FrameData, frame_of}
use Rattle.pipe_csv.specs.Fields.{read_field}

-- where a text doesn't fit: files, rows and columns are counted from 1, and the header is no row
pub data Misfit : Type 0 where
  -- no file has the name
  missing : ℕ → Misfit
  -- the first record isn't the schema's names, in order
  header : ℕ → Misfit
  -- a row has another number of fields
  width : ℕ → ℕ → Misfit
  -- a field doesn't read
  field : ℕ → ℕ → ℕ → Misfit

-- what was read before, in front of what is read after it
abbrev pub in_front : {A E : Type 0} → List A → Result (List A) E → Result (List A) E
in_front front (Ok rest) = Ok (front ++ rest)
in_front front (Err e) = Err e

-- go on after a value, or stop
abbrev pub after : {A E : Type 0} → Result A E → Result (List A) E → Result (List A) E
after (Ok a) rest = in_front (a ∷ []) rest
after (Err e) rest = Err e

-- the values of the fields of a row, from a column on, or the first that doesn't read
abbrev pub read_fields :
    ℕ → ℕ → ℕ → List Field → List (List ℕ) → Result (List AnyValue) Misfit
read_fields file row column [] texts = Ok []
read_fields file row column (f ∷ fs) [] = Ok []
read_fields file row column (f ∷ fs) (t ∷ ts) =
    after (ok_or (read_field f.dtype t) (field file row column))
    (read_fields file row (column + 1) fs ts)

-- the values of a row
abbrev pub read_row : ℕ → ℕ → List Field → List (List ℕ) → Result (List AnyValue) Misfit
read_row file row schema texts =
    if length texts == length schema then read_fields file row 1 schema texts
    else Err (width file row)

-- the values of rows, from a row on
abbrev pub read_rows :
    ℕ → ℕ → List Field → List (List (List ℕ)) → Result (List (List AnyValue)) Misfit
read_rows file row schema [] = Ok []
read_rows file row schema (r ∷ rs) =
    after (read_row file row schema r) (read_rows file (row + 1) schema rs)

-- whether a record is the names of a schema, in order
abbrev pub is_header : List Field → List (List ℕ) → Bool
is_header [] [] = true
is_header [] (t ∷ ts) = false
is_header (f ∷ fs) [] = false
is_header (f ∷ fs) (t ∷ ts) = bytes_eq f.name t && is_header fs ts

-- no value is less than the one before it
abbrev pub is_ascending : List AnyValue → Bool
is_ascending [] = true
is_ascending (v ∷ []) = true
is_ascending (v ∷ w ∷ vs) = not (is_lt (value_cmp w v)) && is_ascending (w ∷ vs)

-- a column that tells whether its values ascend
abbrev pub flagged : ColumnData → ColumnData
flagged c = record c { sorted = is_ascending c.values }

-- a frame of rows whose columns tell whether their values ascend
abbrev pub flagged_frame : List Field → List (List AnyValue) → FrameData
flagged_frame schema rows =
    record { height = length rows; columns = map flagged (frame_of schema rows).columns }
