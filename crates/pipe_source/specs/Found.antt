-- Of the proofs alone: the first file with wanted rows behind others.
use Rattle.std.specs.Prelude.{◌≡◌, ◌≤◌, ◌<◌, ◌+◌, ℕ, Bool, List, [], length, drop, get_or, Option, Some, None, IfSome}
use Rattle.pipe_columns.specs.declared.schema.Field.{Field}
use Rattle.pipe_csv.specs.declared.csv_error.CsvError.{CsvError}
use Rattle.pipe_io.specs.Files.{Files}
use Rattle.pipe_source.specs.ByName.{chunks_by}
use Rattle.pipe_source.specs.CsvChunks.{CsvChunks, no_more}
use Rattle.pipe_source.specs.Reader.{StopsAt}
use Rattle.pipe_source.specs.Rows.{IsLoaded}
use Rattle.pipe_source.specs.declared.file_text.FileText.{FileText}
use Rattle.pipe_source.specs.declared.read_options.CsvReadOptions.{CsvReadOptions}
use Rattle.pipe_source.specs.declared.source_place.SourcePlace.{SourcePlace}

-- the place of a file by its position, behind which no row was given
abbrev pub file_at : SourcePlace → ℕ → SourcePlace
file_at last i = record { file = i + 1; chunks = last.chunks; rows = last.rows }

-- the chunks of the files of names from a position on
abbrev pub chunks_at :
    Bool → CsvReadOptions → List Field → Files → List (List ℕ) → SourcePlace → ℕ → CsvChunks
chunks_at by_name options schema files names last i =
    chunks_by by_name options schema files (file_at last i) (drop i names)

-- where files are told, those between the last one and a position have no wanted rows
abbrev pub ArePassed :
    Bool → CsvReadOptions → List Field → Option Files → List (List ℕ) → SourcePlace → ℕ → Type 0
ArePassed by_name options schema told names last i = IfSome told (λ files.
    chunks_at by_name options schema files names last last.file
    ≡ chunks_at by_name options schema files names last i)

-- the next file that has wanted rows
pub record IsFound
    (by_name : Bool) (options : CsvReadOptions) (schema : List Field) (told : Option Files)
    (names : List (List ℕ)) (last : SourcePlace) (i : ℕ) (f : FileText) : Type 0 where
  pub from : last.file ≤ i
  pub within : i < length names
  pub passed : ArePassed by_name options schema told names last i
  pub loaded : IsLoaded by_name options schema (file_at last i) told (get_or names i []) f
  pub some : 0 < f.count

-- it is found, or there is none
abbrev pub Finds :
    Bool → CsvReadOptions → List Field → Option Files → List (List ℕ) → SourcePlace
    → Option (ℕ × FileText) → Type 0
Finds by_name options schema told names last None = IfSome told (λ files.
    chunks_at by_name options schema files names last last.file ≡ no_more)
Finds by_name options schema told names last (Some found) =
    IsFound by_name options schema told names last found.0 found.1

-- where files are told, an error names where they stop behind the last one
abbrev pub StopsFrom :
    CsvError → Bool → CsvReadOptions → List Field → Option Files → List (List ℕ) → SourcePlace
    → Type 0
StopsFrom e by_name options schema told names last = IfSome told (λ files.
    StopsAt e (chunks_at by_name options schema files names last last.file))
