use Rattle.pipe_plan.proofs.FrameRows.{frames-some}
use Rattle.pipe_plan.proofs.laws_whole.frames_have_rows.Goals as goal

pub returns : goal.returns
returns c = λ r p frames some are. frames-some r p some frames are
