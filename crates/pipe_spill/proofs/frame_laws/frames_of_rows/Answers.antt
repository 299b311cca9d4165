-- Frames are read in one way alone.
use Rattle.pipe_spill.proofs.FrameOnce.{frames_injective, frames_no_front}
use Rattle.pipe_spill.proofs.frame_laws.frames_of_rows.Goals as goal

pub returns-clause-injective : goal.returns-clause-injective
returns-clause-injective c = frames_injective

pub returns-clause-no_front : goal.returns-clause-no_front
returns-clause-no_front c = frames_no_front
