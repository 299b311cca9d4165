use Rattle.std.proofs.Common.{List, ℕ}
use Rattle.pipe_writers.specs.JsonHeads.{AreHeads}
use Rattle.pipe_writers.specs.JsonText.{json_line}
use Rattle.pipe_lines.specs.Lines.{GoesOn}
use Rattle.pipe_lines.specs.Rows.{frame_rows}
use Rattle.pipe_writers.proofs.json_lines.append_lines.Given as goal

-- the lines so far are written
abbrev pub invariant-loop-row : goal.invariant-loop-row
invariant-loop-row l = (names : List (List ℕ)) → AreHeads names l.heads → GoesOn (json_line names) (frame_rows l.frame) l.from l.row l.fn.text.items l.text.items
