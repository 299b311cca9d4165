-- So many rows were tested.
use Rattle.pipe_waiting.specs.OwnRows.{AreTestedTo}
use Rattle.pipe_waiting.proofs.frame_rows.skip_rows.Given as goal

abbrev pub invariant-loop-row : goal.invariant-loop-row
invariant-loop-row l = AreTestedTo l.key_types l.input_types l.own.partitions l.own.number l.rest l.bytes l._row
