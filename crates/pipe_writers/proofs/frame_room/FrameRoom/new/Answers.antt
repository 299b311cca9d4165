use Rattle.std.proofs.Common.{rules}
use Rattle.pipe_writers.proofs.RoomFacts.{new_room}
use Rattle.pipe_writers.proofs.frame_room.FrameRoom.new.Goals as goal

pub invariant_of-result : goal.invariant_of-result
invariant_of-result c =
    new_room _ c.args.schema.now c.args.most _ _ c.in_ok-columns.ensures.empty c.in_ok-columns.ensures.room (search rules) (search rules)
