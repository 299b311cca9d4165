use Rattle.std.proofs.Common.{[], List, ℕ, map, take}
use Rattle.pipe_csv.specs.Written.{HasWritten}
use Rattle.lavzimo_rows.proofs.csv_rows.write_names.Given as goal

-- the names so far are the fields of the record
abbrev pub invariant-loop-column : goal.invariant-loop-column
invariant-loop-column l = (text : List ℕ) → HasWritten l.fn.writer text [] → HasWritten l.writer text (map (λ c. c.name) (take l.column-index l.shown))
