-- What is written, and the rows of the payloads that are left, make the rows of all.
use Rattle.std.proofs.Common.{◌≡◌, ◌++◌, drop}
use Rattle.pipe_spill.specs.FrameBytes.{rows_bytes}
use Rattle.pipe_spill.specs.SpillRow.{joined_rows}
use Rattle.pipe_spill.proofs.frame_write.append_payloads.Given as goal

abbrev pub invariant-loop-payload : goal.invariant-loop-payload
invariant-loop-payload l =
    l.frame.items ++ rows_bytes l.input_types (joined_rows (drop l.payload-index l.payloads))
    ≡ l.fn.frame.items ++ rows_bytes l.input_types (joined_rows l.payloads)
