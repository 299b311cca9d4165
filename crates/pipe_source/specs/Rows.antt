-- Of the proofs alone: rows that stand in a text, and what reading them tells.
use Rattle.std.specs.Prelude.{◌≡◌, ◌≤◌, ◌<◌, ◌*◌, ◌-◌, ◌^◌, ℕ, Bool, true, false, List, [], ◌∷◌, length, take, drop, get_or, Option, Some, None, unwrap_or, Result, Ok, Err, IfSome, ⊤}
use Rattle.pipe_columns.specs.declared.any_value.AnyValue.{AnyValue}
use Rattle.pipe_columns.specs.declared.schema.Field.{Field}
use Rattle.narrow_columns.specs.Wanted.{chosen}
use Rattle.pipe_csv.specs.CsvRows.{Misfit, read_row, read_rows, field, header, missing, width}
use Rattle.pipe_csv.specs.Columns.{with_row}
use Rattle.pipe_csv.specs.CsvError.{StopsBy}
use Rattle.pipe_csv.specs.declared.csv_error.CsvError.{CsvError}
use Rattle.pipe_csv.specs.declared.csv_error.CsvError.TheVariants as csv_error
use Rattle.pipe_io.specs.Files.{Files, IsWhole, file_of}
use Rattle.pipe_io.specs.declared.whole_file.TheConstants.{MOST_FILE_BYTES}
use Rattle.pipe_scan.specs.Records.{records_at}
use Rattle.pipe_source.specs.ByName.{file_rows_by, text_rows_by}
use Rattle.pipe_source.specs.CsvChunks.{Stop, misfit, text_rows, too_large}
use Rattle.pipe_source.specs.LaidRows.{AreLaidAt}
use Rattle.pipe_source.specs.Layout.{LayoutFits, laid}
use Rattle.pipe_source.specs.declared.layout.Layout.{Layout}
use Rattle.pipe_source.specs.declared.read_options.CsvReadOptions.{CsvReadOptions}
use Rattle.pipe_source.specs.declared.source_place.SourcePlace.{SourcePlace}
use Rattle.pipe_source.specs.declared.file_text.FileText.{FileText}

-- the rows of records of which each reads
abbrev pub record_rows : List Field → List (List (List ℕ)) → List (List AnyValue)
record_rows schema records = those (read_rows 1 1 schema records) where
  those : Result (List (List AnyValue)) Misfit → List (List AnyValue)
  those (Ok rows) = rows
  those (Err m) = []

-- the records of a text from a place on begin with so many rows
abbrev pub AreRowsAt :
    List Field → List ℕ → ℕ → ℕ → List (List AnyValue) → Type 0
AreRowsAt schema text at count rows = AreLaidAt None schema text at count rows

-- the records behind n of those from a place of a text on begin at another place
pub record IsStart (text : List ℕ) (at n start : ℕ) : Type 0 where
  pub behind : records_at text start ≡ drop n (records_at text at)
  pub within : start ≤ length text

-- each piece of so many rows of a text has its start
pub record AreStarts (text : List ℕ) (at size count : ℕ) (starts : List ℕ) : Type 0 where
  pub each : (k : ℕ) → k < length starts
      → (k * size < count) × IsStart text at (k * size) (get_or starts k 0)
  pub all : count ≤ length starts * size

-- the wanted rows of a text are the first of the records from a place on, behind its header
abbrev pub HasRowsFrom : ℕ → List Field → List ℕ → ℕ → Type 0
HasRowsFrom file schema text begin = (wanted : Option ℕ)
    → text_rows file wanted schema text
    ≡ read_rows file 1 schema (take (unwrap_or wanted (2 ^ 64 - 1)) (records_at text begin))

-- the same by name or in order
abbrev pub HasRowsBy :
    Bool → ℕ → List Field → List ℕ → Option Layout → ℕ → Type 0
HasRowsBy by_name file schema text layout begin = (wanted : Option ℕ)
    → text_rows_by by_name file wanted schema text
    ≡ read_rows file 1 schema
    (take (unwrap_or wanted (2 ^ 64 - 1)) (laid layout (records_at text begin)))

-- a text that was read whole and looked over has the wanted rows of its file
pub record IsLoaded
    (by_name : Bool) (options : CsvReadOptions) (schema : List Field) (at : SourcePlace)
    (told : Option Files) (name : List ℕ) (f : FileText) : Type 0 where
  pub rows : List (List AnyValue)
  pub whole : IsWhole told name f.text.items
  pub wanted : file_rows_by by_name options schema at (Some f.text.items) ≡ Ok rows
  pub placed : AreLaidAt f.layout schema f.text.items f.begin f.count rows
  pub fit : LayoutFits schema by_name f.layout
  pub starts : AreStarts f.text.items f.begin options.chunk_size f.count f.starts.items
  pub few : f.count ≤ MOST_FILE_BYTES

-- the next record was a row, or there was none
abbrev pub ReadsRow : ℕ → ℕ → List Field → List ℕ → ℕ → ℕ → List AnyValue → Type 0
ReadsRow file row schema text at next values =
    (fields : List (List ℕ)) × (records_at text at ≡ fields ∷ records_at text next)
    × (read_row file row schema fields ≡ Ok values)

-- whether there was one more row, which then reads
abbrev pub ChecksRow : ℕ → ℕ → List Field → List ℕ → ℕ → ℕ → Bool → Type 0
ChecksRow file row schema text at next true =
    (values : List AnyValue) × ReadsRow file row schema text at next values
ChecksRow file row schema text at next false = records_at text at ≡ []

-- an error of the first of some records, or want of memory
abbrev pub StopsFirst : CsvError → ℕ → ℕ → List Field → List (List (List ℕ)) → Type 0
StopsFirst e file row schema [] = e ≡ csv_error.Memory
StopsFirst e file row schema (r ∷ rs) = StopsBy e (read_row file row schema r)

-- an error of a file names where it stops
abbrev pub StopsFile : CsvError → Result (List (List AnyValue)) Stop → Type 0
StopsFile (csv_error.Missing file) read = read ≡ Err (misfit (missing file))
StopsFile (csv_error.Header file) read = read ≡ Err (misfit (header file))
StopsFile (csv_error.Width file row) read = read ≡ Err (misfit (width file row))
StopsFile (csv_error.Field file row column) read =
    read ≡ Err (misfit (field file row column))
StopsFile csv_error.TooLarge read = read ≡ Err too_large
StopsFile csv_error.Input read = ⊤
StopsFile csv_error.Memory read = ⊤

-- where files are told, an error names where the file of a name stops
abbrev pub StopsTold :
    CsvError → Bool → CsvReadOptions → List Field → SourcePlace → Option Files → List ℕ → Type 0
StopsTold e by_name options schema at told name =
    IfSome told (λ files. StopsFile e (file_rows_by by_name options schema at (file_of files name)))

-- the first of some records reads, if there is one
abbrev pub FirstReads : ℕ → ℕ → List Field → List (List (List ℕ)) → Type 0
FirstReads file row schema [] = ⊤
FirstReads file row schema (r ∷ rs) =
    (values : List AnyValue) × (read_row file row schema r ≡ Ok values)

-- whether there was one more row, whose wanted values then went to the ends of columns
abbrev pub PushesRow :
    ℕ → ℕ → List Field → List Bool → List ℕ → ℕ → ℕ
    → List (List AnyValue) → List (List AnyValue) → Bool → Type 0
PushesRow file row schema wanted text at next old new true =
    (values : List AnyValue) × ReadsRow file row schema text at next values
    × (new ≡ with_row (chosen wanted values) old)
PushesRow file row schema wanted text at next old new false = records_at text at ≡ []
