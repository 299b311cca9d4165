-- What is left of named files of CSV, and what a reader of them answers.
use Rattle.std.specs.Prelude.{◌≡◌, ◌≤◌, ◌*◌, ℕ, Bool, List, [], ◌∷◌, Option, Some, None, ⊤}
use Rattle.pipe_columns.specs.declared.any_value.AnyValue.{AnyValue}
use Rattle.pipe_columns.specs.declared.data_chunk.DataChunk.{DataChunk}
use Rattle.pipe_columns.specs.declared.schema.Field.{Field}
use Rattle.pipe_csv.specs.CsvRows.{field, header, missing, width}
use Rattle.pipe_csv.specs.declared.csv_error.CsvError.{CsvError}
use Rattle.pipe_csv.specs.declared.csv_error.CsvError.TheVariants as csv_error
use Rattle.pipe_io.specs.Files.{Files}
use Rattle.pipe_io.specs.declared.whole_file.TheConstants.{MOST_FILE_BYTES}
use Rattle.pipe_source.specs.ByName.{chunks_by}
use Rattle.pipe_source.specs.CsvChunks.{CsvChunks, Stop, behind, chunks_then, file_chunks, misfit, wanted_chunks, no_more, too_large, wanted_fields}
use Rattle.pipe_source.specs.declared.read_options.CsvReadOptions.{CsvReadOptions}
use Rattle.pipe_source.specs.declared.source_place.SourcePlace.{SourcePlace}

-- what a reader of files still has to give: the rows that are left of the file that it read last,
-- with that file's name and their place, and the names of the files behind it; and which columns of
-- the schema are wanted, and whether its columns are found by their names
pub record ReaderState : Type 0 where
  pub by_name : Bool
  pub schema : List Field
  pub wanted : List Bool
  pub options : CsvReadOptions
  pub at : SourcePlace
  pub file : List ℕ
  pub rows : List (List AnyValue)
  pub names : List (List ℕ)

-- the fields of the chunks that a reader gives
abbrev pub given_fields : ReaderState → List Field
given_fields r = wanted_fields r.options r.schema r.wanted

-- the whole chunks that are left of files, and where they stop
abbrev pub whole_left : Files → ReaderState → CsvChunks
whole_left files r =
    chunks_then (file_chunks r.options r.schema r.file r.at r.rows)
    (chunks_by r.by_name r.options r.schema files (behind r.options r.at r.rows) r.names)

-- the chunks that are left of files, of their wanted columns, and where they stop
abbrev pub chunks_left : Files → ReaderState → CsvChunks
chunks_left files r = wanted_chunks r.options r.wanted (whole_left files r)

-- nothing but a stop
abbrev pub stopped : Stop → CsvChunks
stopped stop = record { chunks = []; stop = Some stop }

-- the first chunk that was left was given, or there was none
abbrev pub Gives : Option DataChunk → CsvChunks → CsvChunks → Type 0
Gives None before now = (before ≡ no_more) × (now ≡ no_more)
Gives (Some chunk) before now = before ≡ chunks_then (chunk ∷ []) now

-- an error tells that no chunk was left and where the files stop; of an input that fails and of
-- want of memory nothing is said
abbrev pub StopsAt : CsvError → CsvChunks → Type 0
StopsAt (csv_error.Missing file) left = left ≡ stopped (misfit (missing file))
StopsAt (csv_error.Header file) left = left ≡ stopped (misfit (header file))
StopsAt (csv_error.Width file row) left = left ≡ stopped (misfit (width file row))
StopsAt (csv_error.Field file row column) left = left ≡ stopped (misfit (field file row column))
StopsAt csv_error.TooLarge left = left ≡ stopped too_large
StopsAt csv_error.Input left = ⊤
StopsAt csv_error.Memory left = ⊤

-- files have few rows and few chunks, as none has more bytes than are read at once
pub record AreFew (at : SourcePlace) : Type 0 where
  pub rows : at.rows ≤ at.file * MOST_FILE_BYTES
  pub chunks : at.chunks ≤ at.file * MOST_FILE_BYTES
