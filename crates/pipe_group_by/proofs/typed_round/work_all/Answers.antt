use denote.Param.Send.{sendable}
use Rattle.pipe_group_by.proofs.Sending.{job-send}
use Rattle.pipe_group_by.proofs.typed_round.work_all.Goals as goal

pub for_each_beside-requires-send-T : goal.for_each_beside-requires-send-T
for_each_beside-requires-send-T g c κs within = search (sendable, job-send)
