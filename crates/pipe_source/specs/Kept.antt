-- Of the proofs alone: what a reader keeps of the file that it read last.
use Rattle.std.specs.Prelude.{◌≡◌, ◌≤◌, ◌<◌, ◌+◌, ◌-◌, ◌*◌, ◌%◌, ◌^◌, ℕ, Bool, true, false, List, [], length, map, take, drop, get_or, Option, Some, None, ⊤}
use Rattle.std.specs.List.{range_with_len}
use Rattle.pipe_columns.specs.declared.any_value.AnyValue.{AnyValue}
use Rattle.pipe_columns.specs.declared.data_chunk.DataChunk.{DataChunk}
use Rattle.pipe_columns.specs.declared.schema.Field.{Field}
use Rattle.narrow_columns.specs.Wanted.{chosen, narrowed_chunk}
use Rattle.pipe_io.specs.declared.whole_file.TheConstants.{MOST_FILE_BYTES}
use Rattle.pipe_scan.specs.Records.{records_at}
use Rattle.pipe_source.specs.CsvChunks.{is_numbered, source_frame, source_wanted}
use Rattle.pipe_source.specs.Reader.{ReaderState}
use Rattle.pipe_source.specs.LaidRows.{AreLaidAt}
use Rattle.pipe_source.specs.Layout.{IsWholeLayout, laid}
use Rattle.pipe_source.specs.Rows.{IsStart, record_rows}
use Rattle.pipe_source.specs.declared.kept_text.KeptText.{KeptText}
use Rattle.pipe_source.specs.declared.read_options.CsvReadOptions.{CsvReadOptions}
use Rattle.pipe_source.specs.declared.reading.Reading.{Reading}
use Rattle.pipe_source.specs.declared.source_place.SourcePlace.{SourcePlace}

-- the numbers of rows, of which so many come before, stay below 2^32
abbrev pub AreNumbered : Option (List ℕ × ℕ) → ℕ → ℕ → Type 0
AreNumbered index given count = is_numbered index given count ≡ true

-- ---- what is read

-- the schema of the wanted columns, where it isn't that of all
abbrev pub IsKeptSchema : List Field → List Bool → Option (List Field) → Type 0
IsKeptSchema schema wanted None = wanted ≡ []
IsKeptSchema schema wanted (Some kept) = kept ≡ chosen wanted schema

-- of columns that are found by their names all are wanted
abbrev pub AreWantedBy : Bool → List Bool → Type 0
AreWantedBy false wanted = ⊤
AreWantedBy true wanted = wanted ≡ []

-- what is read has chunks of some rows, and wants no column past its schema
pub record IsFitReading (what : Reading) : Type 0 where
  pub size : 0 < what.options.chunk_size
  pub kept : IsKeptSchema what.schema what.wanted.items what.kept
  pub few : length what.wanted.items ≤ length what.schema
  pub named : AreWantedBy what.by_name what.wanted.items

-- a place in files that have few rows and few chunks
pub record IsSourcePlace (what : Reading) (at : SourcePlace) : Type 0 where
  pub files : at.file ≤ length what.names.items
  pub rows : at.rows ≤ at.file * MOST_FILE_BYTES
  pub chunks : at.chunks ≤ at.file * MOST_FILE_BYTES

-- at a place behind all rows of its file
abbrev pub state_behind : Reading → SourcePlace → ReaderState
state_behind what at = record {
  by_name = what.by_name;
  schema = what.schema;
  wanted = what.wanted.items;
  options = what.options;
  at = at;
  file = [];
  rows = [];
  names = drop at.file what.names.items;
}

-- ---- what is kept

-- where the next rows of a text begin
abbrev pub cursor_of : KeptText → ℕ
cursor_of k = get_or k.starts.items k.chunk 0

-- the rows that are left of a text
abbrev pub rows_kept : Reading → KeptText → List (List AnyValue)
rows_kept what k =
    record_rows what.schema (take k.left (laid k.layout (records_at k.text.items (cursor_of k))))

-- the name of its file
abbrev pub name_kept : Reading → KeptText → List ℕ
name_kept what k = get_or what.names.items (k.at.file - 1) []

-- what a reader has still to give
abbrev pub kept_state : Reading → KeptText → ReaderState
kept_state what k = record {
  by_name = what.by_name;
  schema = what.schema;
  wanted = what.wanted.items;
  options = what.options;
  at = k.at;
  file = name_kept what k;
  rows = rows_kept what k;
  names = drop k.at.file what.names.items;
}

-- from a place on each piece of the rows that are left of a text has its start
pub record AreStartsFrom
    (text : List ℕ) (size left : ℕ) (starts : List ℕ) (chunk : ℕ) : Type 0 where
  pub within : chunk ≤ length starts
  pub each : (k : ℕ) → chunk + k < length starts → (k * size < left)
      × IsStart text (get_or starts chunk 0) (k * size) (get_or starts (chunk + k) 0)
  pub all : left ≤ (length starts - chunk) * size

-- so many rows are left of a text, at a place behind which there are few
pub record HasRowsLeft (what : Reading) (k : KeptText) : Type 0 where
  pub files : k.at.file ≤ length what.names.items
  pub rows : List (List AnyValue)
  pub placed : AreLaidAt k.layout what.schema k.text.items (cursor_of k) k.left rows
  pub layout : IsWholeLayout what.schema what.wanted.items k.layout
  pub starts : AreStartsFrom k.text.items what.options.chunk_size k.left k.starts.items k.chunk
  pub few_rows : k.at.rows + k.left ≤ k.at.file * MOST_FILE_BYTES
  pub few_chunks : k.at.chunks + k.left ≤ k.at.file * MOST_FILE_BYTES
  pub numbered : 0 < k.left → AreNumbered what.options.row_index k.at.rows k.left

-- ---- its chunks

-- a chunk of some rows of a file
abbrev pub chunk_of_rows :
    CsvReadOptions → List Field → List ℕ → SourcePlace → List (List AnyValue) → DataChunk
chunk_of_rows options schema file at rows =
    record {
      chunk_index = at.chunks % 2 ^ 32;
      frame = source_frame options schema file at.rows rows;
    }

-- the same of its wanted columns
abbrev pub given_chunk :
    CsvReadOptions → List Bool → List Field → List ℕ → SourcePlace → List (List AnyValue)
    → DataChunk
given_chunk options wanted schema file at rows =
    narrowed_chunk (source_wanted options wanted) (chunk_of_rows options schema file at rows)

-- the place behind n chunks of a size
abbrev pub place_behind : SourcePlace → ℕ → ℕ → SourcePlace
place_behind at size n =
    record { file = at.file; chunks = at.chunks + n; rows = at.rows + n * size }

-- the rows of chunk n of a size, counted from 0
abbrev pub piece_at : ℕ → ℕ → List (List AnyValue) → List (List AnyValue)
piece_at size n rows = take size (drop (n * size) rows)

-- chunk n of the rows that are left of a text, of its wanted columns
abbrev pub kept_chunk : Reading → KeptText → ℕ → DataChunk
kept_chunk what k n =
    given_chunk what.options what.wanted.items what.schema (name_kept what k)
    (place_behind k.at what.options.chunk_size n)
    (piece_at what.options.chunk_size n (rows_kept what k))

-- its first n chunks
abbrev pub chunks_at : Reading → KeptText → ℕ → List DataChunk
chunks_at what k n = map (kept_chunk what k) (range_with_len 0 n)

-- what is left of a text behind so many chunks of it
pub record IsAdvanced (size n : ℕ) (old new : KeptText) : Type 0 where
  pub layout : new.layout ≡ old.layout
  pub text : new.text ≡ old.text
  pub starts : new.starts ≡ old.starts
  pub chunk : new.chunk ≡ old.chunk + n
  pub left : new.left ≡ old.left - n * size
  pub file : new.at.file ≡ old.at.file
  pub chunks : new.at.chunks ≡ old.at.chunks + n
  pub rows : new.at.rows ≡ old.at.rows + (old.left - new.left)

-- no row was left of a text, and none stands at its place
pub record IsGone (old new : KeptText) : Type 0 where
  pub over : old.left ≡ 0
  pub at : new.at ≡ old.at
  pub layout : new.layout ≡ None
  pub text : new.text.items ≡ []
  pub starts : new.starts.items ≡ []
  pub chunk : new.chunk ≡ 0
  pub left : new.left ≡ 0
