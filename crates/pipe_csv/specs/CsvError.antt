-- Which error tells where the text of a file doesn't fit.
use Rattle.std.specs.Prelude.{◌≡◌, Result, Err, ⊤}
use Rattle.pipe_csv.specs.declared.csv_error.CsvError.{CsvError}
use Rattle.pipe_csv.specs.declared.csv_error.CsvError.TheVariants as ce
use Rattle.pipe_csv.specs.CsvRows.{Misfit, header, width, field}

-- an error of the text names its first misfit, and any text may want for memory
abbrev pub StopsBy : {X : Type 0} → CsvError → Result X Misfit → Type 0
StopsBy (ce.Header file) read = read ≡ Err (header file)
StopsBy (ce.Width file row) read = read ≡ Err (width file row)
StopsBy (ce.Field file row column) read = read ≡ Err (field file row column)
StopsBy ce.Input read = ⊥
StopsBy ce.TooLarge read = ⊥
StopsBy ce.Memory read = ⊤
StopsBy (ce.Missing file) read = ⊥
