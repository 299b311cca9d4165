use Rattle.std.proofs.Common.{[], List, ℕ, map, take}
use Rattle.pipe_csv.specs.Written.{HasWritten}
use Rattle.pipe_writers.proofs.csv_lines.write_names.Given as goal

-- the names so far are the fields of the record
abbrev pub invariant-loop-field : goal.invariant-loop-field
invariant-loop-field l = (text : List ℕ) → HasWritten l.fn.writer text [] → HasWritten l.writer text (map (λ f. f.name) (take l.field-index l.fields))
