-- The first values stand behind what was there.
use Rattle.pipe_waiting.proofs.Appending.{AreAppended}
use Rattle.pipe_waiting.proofs.append_row.append_inputs.Given as goal

abbrev pub invariant-loop-i : goal.invariant-loop-i
invariant-loop-i l = AreAppended l.types l.values l.fn.buffer.items l.buffer.items l.i
