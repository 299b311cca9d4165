use Rattle.std.proofs.Common.{[], List, ℕ}
use Rattle.pipe_csv.specs.Written.{HasWritten}
use Rattle.pipe_writers.specs.CsvWritten.{WroteLines}
use Rattle.pipe_lines.specs.Rows.{frame_rows}
use Rattle.pipe_writers.proofs.csv_lines.write_rows.Given as goal

-- the rows so far are written
abbrev pub invariant-loop-row : goal.invariant-loop-row
invariant-loop-row l = (old : List ℕ) → HasWritten l.fn.writer old [] → WroteLines (frame_rows l.frame) l.from l.row old l.writer
