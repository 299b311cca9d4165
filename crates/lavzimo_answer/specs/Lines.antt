-- How faults are told.
use Rattle.std.specs.Prelude.{ℕ, ◌-◌, ◌==◌, ◌++◌, List, [], codes, bytes_eq, if◌then◌else◌, slice_index_or}
use Rattle.std.specs.Fmt.{decimal}
use Rattle.pipe_columns.specs.declared.data_type.DataType.{DataType}
use Rattle.pipe_columns.specs.declared.data_type.DataType.TheVariants as dt
use Rattle.pipe_columns.specs.declared.schema.Field.{Field}
use Rattle.pipe_csv.specs.declared.csv_error.CsvError.{CsvError}
use Rattle.pipe_csv.specs.declared.csv_error.CsvError.TheVariants as csv_error
use Rattle.pipe_io.specs.declared.whole_file.FileEnd.{FileEnd}
use Rattle.pipe_io.specs.declared.whole_file.FileEnd.TheVariants as file_end
use Rattle.pipe_run.specs.declared.error.PipeError.{PipeError}
use Rattle.pipe_run.specs.declared.error.PipeError.TheVariants as pipe_error
use Rattle.tool_query.specs.Names.{no_query_name}
use Rattle.tool_query.specs.declared.no_query.NoQuery.{NoQuery}
use Rattle.tool_run.specs.declared.error.FileRunError.{FileRunError}
use Rattle.tool_run.specs.declared.error.FileRunError.TheVariants as run_error
use Rattle.lavzimo_answer.specs.Names.{NamesSeen}

-- what a second look at a file gives: how something is, and what stands behind it
pub record LookSeen : Type 0 where
  pub how : List ℕ
  pub more : List ℕ

-- the name by which a file is told
abbrev pub told_name : List ℕ → List ℕ
told_name name = if bytes_eq name (codes "-") then codes "standard input" else name

-- the name of a file, which are counted from 1
abbrev pub file_name : NamesSeen → ℕ → List ℕ
file_name n file = told_name (slice_index_or n.files (file - 1) [])

-- no column
abbrev pub no_field : Field
no_field = record { name = []; dtype = dt.String }

-- a column, which are counted from 1
abbrev pub column_in : List Field → ℕ → Field
column_in columns column = slice_index_or columns (column - 1) no_field

-- what a field is that doesn't read as a type
abbrev pub misread : DataType → List ℕ
misread dt.Boolean = codes "neither true nor false"
misread dt.Date = codes "no day number"
misread dt.String = codes "no UTF-8"
misread t = codes "no whole number"

-- how a field is told that doesn't read, or in row 0, the header, a column that isn't there once
abbrev pub field_text : List ℕ → ℕ → Field → LookSeen → List ℕ
field_text file row column look =
    if row == 0 then file ++ (codes " has " ++ (look.how ++ (codes " column "
    ++ (column.name ++ look.more))))
    else file ++ (codes ", row " ++ (decimal row ++ (codes ", column "
    ++ (column.name ++ (codes ": " ++ (misread column.dtype ++ look.more))))))

-- how it is told that files are not read to their end
abbrev pub read_text : NamesSeen → CsvError → LookSeen → List ℕ
read_text n (csv_error.Missing file) look = file_name n file ++ codes ": no such file"
read_text n (csv_error.Header file) look = file_name n file ++ codes " has no header"
read_text n (csv_error.Width file row) look =
    file_name n file ++ (codes ", row " ++ (decimal row
    ++ codes ": not as many fields as the header has"))
read_text n (csv_error.Field file row column) look =
    field_text (file_name n file) row (column_in n.columns column) look
read_text n csv_error.Input look = look.how ++ codes " can't be read"
read_text n csv_error.TooLarge look = look.how ++ codes " is too large"
read_text n csv_error.Memory look = codes "out of memory"

-- how it is told that a run is refused
abbrev pub refused_text : PipeError → List ℕ
refused_text (pipe_error.Store p) = codes "a file of spilled rows failed"
refused_text (pipe_error.Damaged p n) = codes "a file of spilled rows is damaged"
refused_text e = codes "out of memory"

-- how it is told that a run ended early
abbrev pub run_text : NamesSeen → FileRunError → LookSeen → List ℕ
run_text n (run_error.Read e) look = read_text n e look
run_text n (run_error.Run e) look = refused_text e

-- how it is told that the file of a query isn't read
abbrev pub unread_text : List ℕ → FileEnd → List ℕ
unread_text name file_end.Missing = told_name name ++ codes ": no such file"
unread_text name file_end.Failed = told_name name ++ codes " can't be read"
unread_text name file_end.TooLarge = told_name name ++ codes " is too large"
unread_text name file_end.Memory = codes "out of memory"

-- how it is told that a file has no query
abbrev pub no_query_text : List ℕ → NoQuery → List ℕ
no_query_text name why = told_name name ++ (codes ": query refused: " ++ no_query_name why)
