-- Of the proofs alone: the bytes of a text that is written in memory, and where faults come from.
use Rattle.std.specs.Prelude.{◌≡◌, ℕ, List, Option, Some, Result, Err, ⊤}
use Rattle.pipe_csv.specs.declared.csv_error.CsvError.{CsvError}
use Rattle.pipe_csv.specs.declared.csv_error.CsvError.TheVariants as csv_error
use Rattle.pipe_model.specs.Query.{QueryTree}
use Rattle.tool_query.specs.declared.no_query.NoQuery.{NoQuery}
use Rattle.memory_answer.specs.declared.fault.Fault.{Fault}
use Rattle.memory_answer.specs.declared.fault.Fault.TheVariants as fault

-- the bytes, which are always told
abbrev pub written : List ℕ → Option (List ℕ)
written bytes = Some bytes

-- no write of them fails
abbrev pub no_faults : List ℕ → ℕ
no_faults bytes = 0

-- the fault of a text that is not read to its end
abbrev pub read_fault : CsvError → Fault
read_fault (csv_error.Missing file) = fault.Read (csv_error.Missing file)
read_fault (csv_error.Header file) = fault.Read (csv_error.Header file)
read_fault (csv_error.Width file row) = fault.Read (csv_error.Width file row)
read_fault (csv_error.Field file row column) = fault.Read (csv_error.Field file row column)
read_fault csv_error.Input = fault.Read csv_error.Input
read_fault csv_error.TooLarge = fault.Read csv_error.TooLarge
read_fault csv_error.Memory = fault.Memory

-- a fault says why bytes are no query; nothing is said of want of memory
abbrev pub IsOfQuery : Fault → Result QueryTree NoQuery → Type 0
IsOfQuery fault.Words q = ⊥
IsOfQuery (fault.Query why) q = q ≡ Err why
IsOfQuery (fault.Read e) q = ⊥
IsOfQuery fault.Memory q = ⊤
