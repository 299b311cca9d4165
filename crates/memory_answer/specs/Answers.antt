-- What a query over a text of CSV in memory comes to: the text of its answer, or why there is none.
use Rattle.std.specs.Prelude.{◌≡◌, ◌==◌, ℕ, List, if◌then◌else◌, Option, Some, None, Result, Ok, Err, ⊤}
use Rattle.std.specs.Str.{is_utf8}
use Rattle.memory_runs.specs.TextRuns.{text_answer}
use Rattle.pipe_columns.specs.Frame.{FrameData}
use Rattle.pipe_csv.specs.Texts.{csv_text}
use Rattle.pipe_csv.specs.declared.csv_error.CsvError.{CsvError}
use Rattle.pipe_model.specs.Query.{QueryTree}
use Rattle.pipe_words.specs.declared.plan.Format.{Format}
use Rattle.pipe_words.specs.declared.plan.Format.TheVariants as format
use Rattle.pipe_writers.specs.JsonText.{json_text}
use Rattle.tool_query.specs.QueryWord.{word_query}
use Rattle.tool_query.specs.declared.no_query.NoQuery.{NoQuery}
use Rattle.tool_query.specs.declared.no_query.NoQuery.TheVariants as no_query
use Rattle.memory_answer.specs.declared.fault.Fault.{Fault}
use Rattle.memory_answer.specs.declared.fault.Fault.TheVariants as fault

-- the query that bytes are: a word of JSON, which is UTF-8
abbrev pub bytes_query : List ℕ → Result QueryTree NoQuery
bytes_query bytes = if is_utf8 bytes then word_query bytes else Err no_query.NotJson

-- the text of a frame: CSV behind a line of names, or a line of JSON for each row
abbrev pub text_in : Format → FrameData → List ℕ
text_in format.Csv frame = csv_text frame
text_in format.Json frame = json_text frame

-- the text of a frame, if there is one
abbrev pub frame_told : Format → Result FrameData CsvError → Result (List ℕ) Fault
frame_told f (Ok frame) = Ok (text_in f frame)
frame_told f (Err e) = Err (fault.Read e)

-- the text of the answer of a query over a text, if it is one
abbrev pub query_told : List ℕ → Format → Result QueryTree NoQuery → Result (List ℕ) Fault
query_told text f (Err why) = Err (fault.Query why)
query_told text f (Ok q) = frame_told f (text_answer text q)

-- what the bytes of a query over a text come to
abbrev pub group_told : List ℕ → List ℕ → Format → Result (List ℕ) Fault
group_told query text f = query_told text f (bytes_query query)

-- the same in the format of a number, if it is that of one
abbrev pub told_in : List ℕ → List ℕ → Option Format → Result (List ℕ) Fault
told_in query text None = Err fault.Words
told_in query text (Some f) = group_told query text f

-- the format of a number: 0 is CSV, 1 is lines of JSON
abbrev pub format_of : ℕ → Option Format
format_of n =
    if n == 0 then Some format.Csv else (if n == 1 then Some format.Json else None)

-- a fault is that of a result; nothing is said of want of memory
abbrev pub IsFaultOf : Fault → Result (List ℕ) Fault → Type 0
IsFaultOf fault.Words r = r ≡ Err fault.Words
IsFaultOf (fault.Query why) r = r ≡ Err (fault.Query why)
IsFaultOf (fault.Read e) r = r ≡ Err (fault.Read e)
IsFaultOf fault.Memory r = ⊤
