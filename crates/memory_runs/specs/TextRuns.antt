-- What a query gives over a text of CSV in memory: the text is the one file of an input.
use Rattle.std.specs.Prelude.{◌≡◌, ◌&&◌, ◌^◌, ℕ, nat_lt, Bool, List, [], ◌∷◌, length, codes, if◌then◌else◌, Option, Some, None, Result, Ok, Err, ⊤}
use Rattle.memory_input.specs.HeldText.{one_file}
use Rattle.pipe_columns.specs.declared.data_chunk.DataChunk.{DataChunk}
use Rattle.pipe_columns.specs.Frame.{FrameData}
use Rattle.pipe_csv.specs.CsvRows.{field, header, Misfit, missing, width}
use Rattle.pipe_csv.specs.declared.csv_error.CsvError.{CsvError}
use Rattle.pipe_csv.specs.declared.csv_error.CsvError.TheVariants as csv_error
use Rattle.pipe_io.specs.Files.{Files}
use Rattle.pipe_model.specs.Answer.{answer}
use Rattle.pipe_model.specs.Query.{QueryTree}
use Rattle.pipe_model.specs.Rows.{total_height}
use Rattle.pipe_source.specs.CsvChunks.{csv_chunks, CsvChunks, misfit, Stop, too_large}
use Rattle.pipe_source.specs.declared.read_options.CsvReadOptions.{CsvReadOptions}
use Rattle.memory_runs.specs.declared.reader.TheConstants.{CHUNK_ROWS}

-- ---- what is read

-- the name of the file
abbrev pub text_name : List ℕ
text_name = codes "text"

-- the file
abbrev pub text_file : List ℕ → Files
text_file text = one_file text_name text

-- how it is read
abbrev pub text_options : CsvReadOptions
text_options = record {
  chunk_size = CHUNK_ROWS;
  n_rows = None;
  row_index = None;
  include_file_path = None;
}

-- the chunks of a text, as a query has their columns, and where they stop
abbrev pub text_chunks : List ℕ → QueryTree → CsvChunks
text_chunks text q = csv_chunks (text_file text) (text_name ∷ []) q.schema text_options

-- ---- why the reading ends early

-- whether chunks and their rows have numbers of 32 bits
abbrev pub are_few : List DataChunk → Bool
are_few chunks = nat_lt (total_height chunks) (2 ^ 32) && nat_lt (length chunks) (2 ^ 32)

-- why the reading of chunks ends early, if it does: too many come before the stop
abbrev pub end_of : CsvChunks → Option Stop
end_of read = if are_few read.chunks then read.stop else Some too_large

-- the error of a text that doesn't fit
abbrev pub misfit_error : Misfit → CsvError
misfit_error (missing file) = csv_error.Missing file
misfit_error (header file) = csv_error.Header file
misfit_error (width file row) = csv_error.Width file row
misfit_error (field file row column) = csv_error.Field file row column

-- the error that tells where the reading stops
abbrev pub stop_error : Stop → CsvError
stop_error (misfit m) = misfit_error m
stop_error too_large = csv_error.TooLarge

-- ---- what a query gives

-- a result, unless the reading ends early
abbrev pub unless_ended : {A : Type 0} → Option Stop → A → Result A CsvError
unless_ended None x = Ok x
unless_ended (Some stop) x = Err (stop_error stop)

-- the answer of a query over a text, of one partition, or why there is none
abbrev pub text_answer : List ℕ → QueryTree → Result FrameData CsvError
text_answer text q =
    unless_ended (end_of (text_chunks text q)) (answer (text_chunks text q).chunks q 1)

-- an error is that of a result; nothing is said of want of memory
abbrev pub IsErrorOf : {A : Type 0} → CsvError → Result A CsvError → Type 0
IsErrorOf (csv_error.Missing file) r = r ≡ Err (csv_error.Missing file)
IsErrorOf (csv_error.Header file) r = r ≡ Err (csv_error.Header file)
IsErrorOf (csv_error.Width file row) r = r ≡ Err (csv_error.Width file row)
IsErrorOf (csv_error.Field file row column) r = r ≡ Err (csv_error.Field file row column)
IsErrorOf csv_error.Input r = ⊥
IsErrorOf csv_error.TooLarge r = r ≡ Err csv_error.TooLarge
IsErrorOf csv_error.Memory r = ⊤
