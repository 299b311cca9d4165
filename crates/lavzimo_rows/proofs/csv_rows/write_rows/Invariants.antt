use Rattle.std.proofs.Common.{◌++◌, [], List, ℕ, map, take}
use Rattle.std.specs.List.{flat_map}
use Rattle.pipe_columns.specs.Frame.{row_at}
use Rattle.pipe_csv.specs.Written.{HasWritten}
use Rattle.lavzimo_rows.specs.Texts.{csv_line}
use Rattle.lavzimo_rows.proofs.csv_rows.write_rows.Given as goal

-- the lines of the rows so far are written
abbrev pub invariant-loop-row : goal.invariant-loop-row
invariant-loop-row l = (text : List ℕ) → HasWritten l.fn.writer text [] → HasWritten l.writer (text ++ flat_map (csv_line l.shown) (map (row_at l.columns) (take l.row-index l.rows))) []
