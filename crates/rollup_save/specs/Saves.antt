-- What is saved of files, and why it ends early.
use Rattle.std.specs.Prelude.{◌≡◌, ◌+◌, ◌^◌, ◌&&◌, ℕ, nat_lt, Bool, true, List, length, if◌then◌else◌, Option, Some, None, IfSome, ⊤}
use Rattle.narrow_query.specs.Names.{covers}
use Rattle.narrow_query.specs.Narrowed.{narrowed_tree}
use Rattle.pipe_columns.specs.declared.data_chunk.DataChunk.{DataChunk}
use Rattle.pipe_csv.specs.CsvRows.{field, header, missing, width}
use Rattle.pipe_csv.specs.declared.csv_error.CsvError.{CsvError}
use Rattle.pipe_csv.specs.declared.csv_error.CsvError.TheVariants as csv_error
use Rattle.pipe_io.specs.Files.{Files}
use Rattle.pipe_model.specs.Query.{QueryTree}
use Rattle.pipe_model.specs.Rows.{total_height}
use Rattle.pipe_saving.specs.Refusals.{CanBeSaved}
use Rattle.pipe_source.specs.CsvChunks.{csv_chunks, CsvChunks, misfit, Stop, too_large}
use Rattle.pipe_source.specs.Reader.{chunks_left, ReaderState}
use Rattle.pipe_source.specs.declared.read_options.CsvReadOptions.{CsvReadOptions}
use Rattle.pipe_states.specs.Parts.{part_of, saved}
use Rattle.pipe_states.specs.States.{StateSeen}
use Rattle.pipe_states.specs.StateText.{state_text}
use Rattle.rollup_save.specs.declared.files.TheConstants.{CHUNK_ROWS}

-- how files are read to be saved
abbrev pub save_options : CsvReadOptions
save_options = record {
  chunk_size = CHUNK_ROWS;
  n_rows = None;
  row_index = None;
  include_file_path = None;
}

-- the chunks of files of some names, as a query has their columns
abbrev pub file_chunks : Files → List (List ℕ) → QueryTree → CsvChunks
file_chunks files names q = csv_chunks files names q.schema save_options

-- ---- why saving ends early

-- whether chunks, of which the first has a position, have positions that a range can end behind,
-- and fewer than 2^32 rows
abbrev pub are_few : ℕ → List DataChunk → Bool
are_few first chunks =
    nat_lt (total_height chunks) (2 ^ 32) && nat_lt (first + length chunks) (2 ^ 32)

-- why the saving of chunks ends early, if it does: too many come before where the files stop
abbrev pub end_of : ℕ → CsvChunks → Option Stop
end_of first read = if are_few first read.chunks then read.stop else Some too_large

-- an error tells why saving ends early; of an input that fails and of want of memory nothing is
-- said
abbrev pub Tells : CsvError → Option Stop → Type 0
Tells (csv_error.Missing file) stop = stop ≡ Some (misfit (missing file))
Tells (csv_error.Header file) stop = stop ≡ Some (misfit (header file))
Tells (csv_error.Width file row) stop = stop ≡ Some (misfit (width file row))
Tells (csv_error.Field file row column) stop = stop ≡ Some (misfit (field file row column))
Tells csv_error.TooLarge stop = stop ≡ Some too_large
Tells csv_error.Input stop = ⊤
Tells csv_error.Memory stop = ⊤

-- ---- what is saved

-- a state is that of chunks, which can be saved: where files are told, of all that a reader of them
-- had left, without a stop
pub record IsSavedOf
    (q : QueryTree) (first : ℕ) (told : Option Files) (left : ReaderState) (s : StateSeen)
    : Type 0 where
  pub chunks : List DataChunk
  pub all : IfSome told (λ files. chunks_left files left ≡ record { chunks = chunks; stop = None })
  pub can : CanBeSaved q.schema first chunks
  pub state : s ≡ saved q (part_of q first chunks)

-- the state of files of some names, by a query; their first chunk has a position
abbrev pub state_of_files : Files → List (List ℕ) → QueryTree → ℕ → StateSeen
state_of_files files names q first = saved q (part_of q first (file_chunks files names q).chunks)

-- its text
abbrev pub text_of_files : Files → List (List ℕ) → QueryTree → ℕ → List ℕ
text_of_files files names q first = state_text q (state_of_files files names q first)

-- why the saving of files ends early, if it does
abbrev pub end_of_files : Files → List (List ℕ) → QueryTree → ℕ → Option Stop
end_of_files files names q first = end_of first (file_chunks files names q)

-- a text is that of a state of chunks which can be saved: they have those columns alone, of a
-- query's, that are wanted, and these are all that it names
pub record IsSavedText (q : QueryTree) (first : ℕ) (text : List ℕ) : Type 0 where
  pub wanted : List Bool
  pub named : covers wanted q ≡ true
  pub chunks : List DataChunk
  pub can : CanBeSaved (narrowed_tree wanted q).schema first chunks
  pub text_is :
      text ≡ state_text q
      (saved (narrowed_tree wanted q) (part_of (narrowed_tree wanted q) first chunks))
