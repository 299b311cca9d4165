use Rattle.std.proofs.Common.{◌++◌, [], map}
use Rattle.std.specs.List.{flat_map, range_with_len}
use Rattle.pipe_columns.specs.Frame.{row_at}
use Rattle.pipe_csv.specs.Texts.{field_of, header_text, line_of}
use Rattle.pipe_csv.specs.Written.{HasWritten}
use Rattle.pipe_csv.proofs.csv_text.frame_text.Given as goal

-- the header and the rows so far are written
abbrev pub invariant-loop-row : goal.invariant-loop-row
invariant-loop-row l = HasWritten l.writer (header_text l.frame ++ flat_map (λ n. line_of (map field_of (row_at l.frame.columns n))) (range_with_len 0 l.row)) []
