-- What is read of files whose columns stand in order, or are found by their names.
use Rattle.std.specs.Prelude.{ℕ, Bool, true, false, List, Option, Result}
use Rattle.pipe_columns.specs.declared.any_value.AnyValue.{AnyValue}
use Rattle.pipe_columns.specs.declared.schema.Field.{Field}
use Rattle.pipe_csv.specs.CsvRows.{Misfit}
use Rattle.pipe_io.specs.Files.{Files}
use Rattle.pipe_source.specs.CsvChunks.{CsvChunks, csv_chunks_from, file_rows, Stop, text_rows}
use Rattle.pipe_source.specs.NamedChunks.{named_chunks_from, named_file_rows}
use Rattle.pipe_source.specs.NamedRows.{named_text_rows}
use Rattle.pipe_source.specs.declared.read_options.CsvReadOptions.{CsvReadOptions}
use Rattle.pipe_source.specs.declared.source_place.SourcePlace.{SourcePlace}

-- the wanted rows of the text of a file, by name or in order
abbrev pub text_rows_by :
    Bool → ℕ → Option ℕ → List Field → List ℕ → Result (List (List AnyValue)) Misfit
text_rows_by false file wanted schema text = text_rows file wanted schema text
text_rows_by true file wanted columns text = named_text_rows file wanted columns text

-- the wanted rows of a file at a place, by name or in order
abbrev pub file_rows_by :
    Bool → CsvReadOptions → List Field → SourcePlace → Option (List ℕ)
    → Result (List (List AnyValue)) Stop
file_rows_by false options schema at text = file_rows options schema at text
file_rows_by true options columns at text = named_file_rows options columns at text

-- the chunks of the files of some names from a place on, by name or in order
abbrev pub chunks_by :
    Bool → CsvReadOptions → List Field → Files → SourcePlace → List (List ℕ) → CsvChunks
chunks_by false options schema files at names = csv_chunks_from options schema files at names
chunks_by true options columns files at names = named_chunks_from options columns files at names
