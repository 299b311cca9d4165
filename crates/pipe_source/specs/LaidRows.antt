-- Of the proofs alone: rows that stand in a text, of which some fields are read, and what reading them tells.
use Rattle.std.specs.Prelude.{◌≡◌, ◌≤◌, ◌-◌, ◌^◌, ℕ, Bool, true, false, List, [], ◌∷◌, length, take, Option, Some, unwrap_or, Result, Ok}
use Rattle.pipe_columns.specs.declared.any_value.AnyValue.{AnyValue}
use Rattle.pipe_columns.specs.declared.schema.Field.{Field}
use Rattle.pipe_csv.specs.Columns.{with_row}
use Rattle.pipe_csv.specs.CsvRows.{Misfit, read_row, read_rows}
use Rattle.pipe_scan.specs.Records.{Records, records_at}
use Rattle.pipe_source.specs.Layout.{laid, laid_record}
use Rattle.pipe_source.specs.NamedRows.{named_text_rows}
use Rattle.pipe_source.specs.declared.layout.Layout.{Layout}

-- the records of a text from a place on begin with so many rows
pub record AreLaidAt
    (layout : Option Layout) (columns : List Field) (text : List ℕ) (at count : ℕ)
    (rows : List (List AnyValue)) : Type 0 where
  pub read : read_rows 1 1 columns (take count (laid layout (records_at text at))) ≡ Ok rows
  pub size : length rows ≡ count
  pub within : at ≤ length text

-- the wanted rows of a text are the first of the records from a place on, behind its header
abbrev pub HasNamedRowsFrom : ℕ → List Field → List ℕ → Layout → ℕ → Type 0
HasNamedRowsFrom file columns text l begin = (wanted : Option ℕ)
    → named_text_rows file wanted columns text
    ≡ read_rows file 1 columns
    (take (unwrap_or wanted (2 ^ 64 - 1)) (laid (Some l) (records_at text begin)))

-- the next record was a row
abbrev pub ReadsLaid :
    Option Layout → ℕ → ℕ → List Field → List ℕ → ℕ → ℕ → List AnyValue → Type 0
ReadsLaid layout file row columns text at next values =
    (fields : List (List ℕ)) × (records_at text at ≡ fields ∷ records_at text next)
    × (read_row file row columns (laid_record layout fields) ≡ Ok values)

-- whether there was one more row, which then reads
abbrev pub ChecksLaid :
    Option Layout → ℕ → ℕ → List Field → List ℕ → ℕ → ℕ → Bool → Type 0
ChecksLaid layout file row columns text at next true =
    (values : List AnyValue) × ReadsLaid layout file row columns text at next values
ChecksLaid layout file row columns text at next false = records_at text at ≡ []

-- whether there was one more row, whose values then went to the ends of columns
abbrev pub PushesLaid :
    Option Layout → ℕ → ℕ → List Field → List ℕ → ℕ → ℕ
    → List (List AnyValue) → List (List AnyValue) → Bool → Type 0
PushesLaid layout file row columns text at next old new true =
    (values : List AnyValue) × ReadsLaid layout file row columns text at next values
    × (new ≡ with_row values old)
PushesLaid layout file row columns text at next old new false = records_at text at ≡ []
