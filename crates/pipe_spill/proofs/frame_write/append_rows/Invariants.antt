-- What is written, and the rows that are left, make all the rows.
use Rattle.std.proofs.Common.{◌≡◌, ◌++◌, drop}
use Rattle.pipe_spill.specs.FrameBytes.{rows_bytes}
use Rattle.pipe_spill.proofs.frame_write.append_rows.Given as goal

abbrev pub invariant-loop-row : goal.invariant-loop-row
invariant-loop-row l =
    l.frame.items ++ rows_bytes l.input_types (drop l.row-index l.rows) ≡ l.fn.frame.items ++ rows_bytes l.input_types l.rows
