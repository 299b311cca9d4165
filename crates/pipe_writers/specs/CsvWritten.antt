-- Of the proofs alone: lines that a CSV writer has written behind a text.
use Rattle.std.specs.Prelude.{ℕ, List, []}
use Rattle.pipe_csv.specs.Written.{HasWritten, TextWriter}
use Rattle.pipe_writers.specs.CsvLines.{csv_line}
use Rattle.pipe_lines.specs.Lines.{GoesOn}
use Rattle.pipe_lines.specs.Rows.{Row}

-- a writer that began behind a text has written the lines of the rows from one place up to another
abbrev pub WroteLines : List Row → ℕ → ℕ → List ℕ → TextWriter → Type 0
WroteLines rows from to old writer =
    (text : List ℕ) × HasWritten writer text [] × GoesOn csv_line rows from to old text
