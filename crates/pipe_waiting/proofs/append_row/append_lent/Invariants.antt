-- The first inputs stand behind what was there.
use Rattle.pipe_inputs.specs.ChunkRows.{row_at}
use Rattle.pipe_waiting.proofs.Appending.{AreAppended}
use Rattle.pipe_waiting.proofs.append_row.append_lent.Given as goal

abbrev pub invariant-loop-i : goal.invariant-loop-i
invariant-loop-i l = AreAppended l.types (row_at l.rows l.row).inputs l.fn.buffer.items l.buffer.items l.i
