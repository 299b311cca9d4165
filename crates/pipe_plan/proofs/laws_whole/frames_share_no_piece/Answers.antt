use Rattle.pipe_plan.proofs.Naming.{frames-apart}
use Rattle.pipe_plan.proofs.laws_whole.frames_share_no_piece.Goals as goal

pub returns : goal.returns
returns c = frames-apart
