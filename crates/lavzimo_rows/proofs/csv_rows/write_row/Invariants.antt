use Rattle.std.proofs.Common.{[], List, ℕ, map, take}
use Rattle.pipe_columns.specs.Frame.{row_at}
use Rattle.pipe_csv.specs.Written.{HasWritten}
use Rattle.lavzimo_rows.specs.Columns.{shown_value}
use Rattle.lavzimo_rows.specs.Texts.{csv_field}
use Rattle.lavzimo_rows.proofs.csv_rows.write_row.Given as goal

-- what the columns so far show are the fields of the record
abbrev pub invariant-loop-column : goal.invariant-loop-column
invariant-loop-column l = (text : List ℕ) → HasWritten l.fn.writer text [] → HasWritten l.writer text (map (λ c. csv_field c.shows (shown_value c.shows (row_at l.columns l.row))) (take l.column-index l.shown))
