-- The faults of a call over texts in memory: their statuses and their lines.
use Rattle.std.specs.Prelude.{ℕ, List, ◌++◌, codes}
use Rattle.std.specs.Fmt.{decimal}
use Rattle.pipe_csv.specs.declared.csv_error.CsvError.{CsvError}
use Rattle.pipe_csv.specs.declared.csv_error.CsvError.TheVariants as csv_error
use Rattle.tool_query.specs.Names.{no_query_name}
use Rattle.tool_shell.specs.declared.status.TheConstants.{INPUT_FAILED, INPUT_REFUSED, NO_MEMORY, QUERY_REFUSED, TOO_LARGE, WORDS_REFUSED}
use Rattle.memory_answer.specs.declared.fault.Fault.{Fault}
use Rattle.memory_answer.specs.declared.fault.Fault.TheVariants as fault

-- the status of a text that is not read to its end
abbrev pub read_status : CsvError → ℕ
read_status (csv_error.Missing file) = INPUT_REFUSED
read_status (csv_error.Header file) = INPUT_REFUSED
read_status (csv_error.Width file row) = INPUT_REFUSED
read_status (csv_error.Field file row column) = INPUT_REFUSED
read_status csv_error.Input = INPUT_FAILED
read_status csv_error.TooLarge = TOO_LARGE
read_status csv_error.Memory = NO_MEMORY

-- the status of a fault
abbrev pub status_of : Fault → ℕ
status_of fault.Words = WORDS_REFUSED
status_of (fault.Query why) = QUERY_REFUSED
status_of (fault.Read e) = read_status e
status_of fault.Memory = NO_MEMORY

-- how it is told that a text is not read to its end
abbrev pub read_text : CsvError → List ℕ
read_text (csv_error.Missing file) = codes "file " ++ (decimal file ++ codes ": missing")
read_text (csv_error.Header file) = codes "file " ++ (decimal file ++ codes ": header")
read_text (csv_error.Width file row) =
    codes "file " ++ (decimal file ++ (codes " row " ++ (decimal row ++ codes ": width")))
read_text (csv_error.Field file row column) =
    codes "file " ++ (decimal file ++ (codes " row " ++ (decimal row
    ++ (codes " column " ++ (decimal column ++ codes ": field")))))
read_text csv_error.Input = codes "input failed"
read_text csv_error.TooLarge = codes "too large"
read_text csv_error.Memory = codes "out of memory"

-- how a fault is told
abbrev pub fault_text : Fault → List ℕ
fault_text fault.Words = codes "words refused"
fault_text (fault.Query why) = codes "query refused: " ++ no_query_name why
fault_text (fault.Read e) = read_text e
fault_text fault.Memory = codes "out of memory"

-- the line of a fault
abbrev pub fault_line : Fault → List ℕ
fault_line f = fault_text f ++ codes "\n"
