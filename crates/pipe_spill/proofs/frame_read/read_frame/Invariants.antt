-- So many rows were read.
use Rattle.pipe_spill.proofs.FrameOnce.{AreReadTo}
use Rattle.pipe_spill.proofs.frame_read.read_frame.Given as goal

abbrev pub invariant-loop-row : goal.invariant-loop-row
invariant-loop-row l = AreReadTo l.key_types l.input_types l.rows.items l.rest l.initial.rest l._row
