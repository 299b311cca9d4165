use Rattle.std.proofs.Common.{◌≡◌, [], List, ℕ, map, take, true}
use Rattle.pipe_columns.specs.Frame.{row_at, all_have_height}
use Rattle.pipe_csv.specs.Texts.{field_of}
use Rattle.pipe_csv.specs.Written.{HasWritten}
use Rattle.pipe_writers.proofs.csv_lines.write_row.Given as goal

-- the values so far are the fields of the record
abbrev pub invariant-loop-column : goal.invariant-loop-column
invariant-loop-column l = record {
  written : (text : List ℕ) → HasWritten l.fn.writer text [] → HasWritten l.writer text (map field_of (row_at (take l.column-index l.column-items) l.row));
  same : l.column-items ≡ l.frame.columns;
  height : all_have_height l.frame.height l.column-items ≡ true;
}
