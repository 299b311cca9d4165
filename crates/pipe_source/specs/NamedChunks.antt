-- The chunks that a source gives of named files whose columns are found by their names, and where it stops.
use Rattle.std.specs.Prelude.{ℕ, List, [], ◌∷◌, length, nat_lt, Option, Some, None, if◌then◌else◌, Result, Err}
use Rattle.pipe_columns.specs.declared.any_value.AnyValue.{AnyValue}
use Rattle.pipe_columns.specs.declared.schema.Field.{Field}
use Rattle.pipe_csv.specs.CsvRows.{missing}
use Rattle.pipe_io.specs.Files.{Files, file_of}
use Rattle.pipe_io.specs.declared.whole_file.TheConstants.{MOST_FILE_BYTES}
use Rattle.pipe_source.specs.CsvChunks.{behind, chunks_then, CsvChunks, file_chunks, first_place, go_on, is_any_wanted, misfit, no_more, numbered_rows, Stop, too_large, wanted_after}
use Rattle.pipe_source.specs.NamedRows.{named_text_rows}
use Rattle.pipe_source.specs.declared.source_place.SourcePlace.{SourcePlace}
use Rattle.pipe_source.specs.declared.read_options.CsvReadOptions.{CsvReadOptions}

-- the wanted rows of a file at a place; a large one is refused before its text is looked at
abbrev pub named_file_rows :
    CsvReadOptions → List Field → SourcePlace → Option (List ℕ) → Result (List (List AnyValue)) Stop
named_file_rows options columns at None = Err (misfit (missing at.file))
named_file_rows options columns at (Some text) =
    if nat_lt MOST_FILE_BYTES (length text) then Err too_large
    else numbered_rows options.row_index at.rows
    (named_text_rows at.file (wanted_after options.n_rows at.rows) columns text)

-- the chunks of the files of some names from a place on, while rows are wanted
abbrev pub named_chunks_from :
    CsvReadOptions → List Field → Files → SourcePlace → List (List ℕ) → CsvChunks
named_chunks_from options columns files at [] = no_more
named_chunks_from options columns files at (name ∷ names) =
    if is_any_wanted (wanted_after options.n_rows at.rows)
    then go_on (named_file_rows options columns at (file_of files name)) (λ rows.
    chunks_then (file_chunks options columns name at rows)
    (named_chunks_from options columns files (behind options at rows) names))
    else no_more

-- the chunks of the files of some names, up to where a source of them stops: each file has the columns
-- where its own header names them
abbrev pub named_chunks : Files → List (List ℕ) → List Field → CsvReadOptions → CsvChunks
named_chunks files names columns options =
    named_chunks_from options columns files first_place names
