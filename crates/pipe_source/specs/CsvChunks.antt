-- The chunks that a source gives of named files, and where it stops.
use Rattle.std.specs.Prelude.{ℕ, ◌+◌, ◌-◌, ◌%◌, ◌^◌, nat_lt, nat_le, pos, Bool, true, List, [], ◌∷◌, ◌++◌, length, map, replicate, take, Option, Some, None, option_map, if◌then◌else◌, Result, Ok, Err}
use Rattle.std.specs.List.{range_with_len}
use Rattle.csv.specs.Reading.{default_config, records, strip_bom}
use Rattle.pipe_columns.specs.declared.data_type.DataType.TheVariants as dt
use Rattle.pipe_columns.specs.declared.any_value.AnyValue.{AnyValue}
use Rattle.pipe_columns.specs.declared.any_value.AnyValue.TheVariants as av
use Rattle.pipe_columns.specs.declared.schema.Field.{Field}
use Rattle.pipe_columns.specs.declared.data_chunk.DataChunk.{DataChunk}
use Rattle.pipe_columns.specs.Frame.{ColumnData, FrameData}
use Rattle.pipe_columns.specs.Pieces.{pieces}
use Rattle.narrow_columns.specs.Wanted.{chosen, narrowed_chunks}
use Rattle.pipe_csv.specs.CsvRows.{Misfit, flagged_frame, header, is_ascending, is_header, missing, read_rows}
use Rattle.pipe_io.specs.Files.{Files, file_of}
use Rattle.pipe_io.specs.declared.whole_file.TheConstants.{MOST_FILE_BYTES}
use Rattle.pipe_source.specs.declared.source_place.SourcePlace.{SourcePlace}
use Rattle.pipe_source.specs.declared.read_options.CsvReadOptions.{CsvReadOptions}

-- why a source gives no more
pub data Stop : Type 0 where
  -- a text doesn't fit there, or no file has the name
  misfit : Misfit → Stop
  -- a file has more bytes than are read at once, or the number of a row would pass 32 bits
  too_large : Stop

-- what a source gives: chunks, and where it stops
pub record CsvChunks : Type 0 where
  pub chunks : List DataChunk
  pub stop : Option Stop

-- nothing more, without fault
abbrev pub no_more : CsvChunks
no_more = record { chunks = []; stop = None }

-- chunks in front of what is given after them
abbrev pub chunks_then : List DataChunk → CsvChunks → CsvChunks
chunks_then front rest = record { chunks = front ++ rest.chunks; stop = rest.stop }

-- ---- rows

-- how many rows are still wanted after some, where they are limited
abbrev pub wanted_after : Option ℕ → ℕ → Option ℕ
wanted_after limit given = option_map (λ n. n - given) limit

-- whether any row is wanted
abbrev pub is_any_wanted : Option ℕ → Bool
is_any_wanted None = true
is_any_wanted (Some n) = nat_lt 0 n

-- the first of a list, as many as are wanted
abbrev pub wanted_of : {A : Type 0} → Option ℕ → List A → List A
wanted_of None xs = xs
wanted_of (Some n) xs = take n xs

-- the wanted rows of records, the first of which is the header; the others aren't looked at
abbrev pub wanted_rows :
    ℕ → Option ℕ → List Field → List (List (List ℕ)) → Result (List (List AnyValue)) Misfit
wanted_rows file wanted schema [] = Err (header file)
wanted_rows file wanted schema (r ∷ rs) =
    if is_header schema r then read_rows file 1 schema (wanted_of wanted rs) else Err (header file)

-- the wanted rows of the text of a file
abbrev pub text_rows :
    ℕ → Option ℕ → List Field → List ℕ → Result (List (List AnyValue)) Misfit
text_rows file wanted schema text =
    wanted_rows file wanted schema (records default_config (strip_bom text))

-- whether the numbers of rows, of which so many come before, stay below 2^32
abbrev pub is_numbered : Option (List ℕ × ℕ) → ℕ → ℕ → Bool
is_numbered None given count = true
is_numbered (Some index) given count = nat_le (index.1 + given + count) (2 ^ 32)

-- rows, of which so many come before, where they can be numbered
abbrev pub numbered_rows :
    Option (List ℕ × ℕ) → ℕ → Result (List (List AnyValue)) Misfit
    → Result (List (List AnyValue)) Stop
numbered_rows index given (Err m) = Err (misfit m)
numbered_rows index given (Ok rows) =
    if is_numbered index given (length rows) then Ok rows else Err too_large

-- the wanted rows of a file at a place; a large one is refused before its text is looked at
abbrev pub file_rows :
    CsvReadOptions → List Field → SourcePlace → Option (List ℕ) → Result (List (List AnyValue)) Stop
file_rows options schema at None = Err (misfit (missing at.file))
file_rows options schema at (Some text) =
    if nat_lt MOST_FILE_BYTES (length text) then Err too_large
    else numbered_rows options.row_index at.rows
    (text_rows at.file (wanted_after options.n_rows at.rows) schema text)

-- ---- chunks

-- a column that tells whether its values ascend
abbrev pub flagged_column : Field → List AnyValue → ColumnData
flagged_column f values = record {
  name = f.name;
  dtype = f.dtype;
  sorted = is_ascending values;
  values = values;
}

-- a list with one more in front, where there is one
abbrev pub with_first : {A : Type 0} → Option A → List A → List A
with_first None xs = xs
with_first (Some x) xs = x ∷ xs

-- a list with one more behind, where there is one
abbrev pub with_last : {A : Type 0} → List A → Option A → List A
with_last xs None = xs
with_last xs (Some x) = xs ++ x ∷ []

-- the field of the numbers of rows
abbrev pub index_field : List ℕ → Field
index_field name = record { name = name; dtype = dt.UInt32 }

-- the field of the names of files
abbrev pub path_field : List ℕ → Field
path_field name = record { name = name; dtype = dt.String }

-- the fields of all chunks: the rows' numbers come first, the file's name last
abbrev pub source_fields : CsvReadOptions → List Field → List Field
source_fields options schema =
    with_first (option_map (λ index. index_field index.0) options.row_index)
    (with_last schema (option_map path_field options.include_file_path))

-- numbers one after another
abbrev pub numbers_from : ℕ → ℕ → List AnyValue
numbers_from first count = map (λ n. av.Int (pos n)) (range_with_len first count)

-- the numbers of so many rows, of which some come before
abbrev pub index_column : ℕ → ℕ → List ℕ × ℕ → ColumnData
index_column given count index =
    flagged_column (index_field index.0) (numbers_from (index.1 + given) count)

-- the name of a file in each of so many rows
abbrev pub path_column : List ℕ → ℕ → List ℕ → ColumnData
path_column file count name =
    flagged_column (path_field name) (replicate count (av.Text file))

-- the frame of some rows of a file, of which so many come before
abbrev pub source_frame :
    CsvReadOptions → List Field → List ℕ → ℕ → List (List AnyValue) → FrameData
source_frame options schema file given rows = record {
  height = length rows;
  columns =
      with_first (option_map (index_column given (length rows)) options.row_index)
      (with_last (flagged_frame schema rows).columns
      (option_map (path_column file (length rows)) options.include_file_path));
}

-- the chunks of pieces of a file's rows, from so many chunks and rows on
abbrev pub chunks_of_pieces :
    CsvReadOptions → List Field → List ℕ → ℕ → ℕ → List (List (List AnyValue)) → List DataChunk
chunks_of_pieces options schema file i given [] = []
chunks_of_pieces options schema file i given (p ∷ ps) =
    record { chunk_index = i % 2 ^ 32; frame = source_frame options schema file given p }
    ∷ chunks_of_pieces options schema file (i + 1) (given + length p) ps

-- the chunks of a file's rows at a place
abbrev pub file_chunks :
    CsvReadOptions → List Field → List ℕ → SourcePlace → List (List AnyValue) → List DataChunk
file_chunks options schema file at rows =
    chunks_of_pieces options schema file at.chunks at.rows (pieces options.chunk_size rows)

-- the place of the next file, behind some rows of one
abbrev pub behind : CsvReadOptions → SourcePlace → List (List AnyValue) → SourcePlace
behind options at rows = record {
  file = at.file + 1;
  chunks = at.chunks + length (pieces options.chunk_size rows);
  rows = at.rows + length rows;
}

-- ---- wanted columns

-- which columns of a source are wanted, by those of the schema: those at both ends always are
abbrev pub source_wanted : CsvReadOptions → List Bool → List Bool
source_wanted options wanted = with_first (option_map (λ index. true) options.row_index) wanted

-- the fields of chunks of which some columns are wanted
abbrev pub wanted_fields : CsvReadOptions → List Field → List Bool → List Field
wanted_fields options schema wanted =
    chosen (source_wanted options wanted) (source_fields options schema)

-- what a source gives of its wanted columns
abbrev pub wanted_chunks : CsvReadOptions → List Bool → CsvChunks → CsvChunks
wanted_chunks options wanted given = record {
  chunks = narrowed_chunks (source_wanted options wanted) given.chunks;
  stop = given.stop;
}

-- ---- files

-- go on after a file's rows, or stop
abbrev pub go_on :
    Result (List (List AnyValue)) Stop → (List (List AnyValue) → CsvChunks) → CsvChunks
go_on (Err stop) rest = record { chunks = []; stop = Some stop }
go_on (Ok rows) rest = rest rows

-- the chunks of the files of some names from a place on, while rows are wanted
abbrev pub csv_chunks_from :
    CsvReadOptions → List Field → Files → SourcePlace → List (List ℕ) → CsvChunks
csv_chunks_from options schema files at [] = no_more
csv_chunks_from options schema files at (name ∷ names) =
    if is_any_wanted (wanted_after options.n_rows at.rows)
    then go_on (file_rows options schema at (file_of files name)) (λ rows.
    chunks_then (file_chunks options schema name at rows)
    (csv_chunks_from options schema files (behind options at rows) names))
    else no_more

-- the place of the first file
abbrev pub first_place : SourcePlace
first_place = record { file = 1; chunks = 0; rows = 0 }

-- the chunks of the files of some names, up to where a source of them stops
abbrev pub csv_chunks : Files → List (List ℕ) → List Field → CsvReadOptions → CsvChunks
csv_chunks files names schema options =
    csv_chunks_from options schema files first_place names
