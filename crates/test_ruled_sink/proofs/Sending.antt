-- A sender may go to a thread, where its runtime may.
use Rattle.std.proofs.Crossing.{Vec-send}
use denote.RattleType.{RattleType}
use denote.Struct.Declared.{shape}
use denote.Param.Send.{IsSend, sendable, recorded_send, struct_send}
use Rattle.pipe_columns.proofs.data_chunk.DataChunk.TheSendSync.{the_send as chunk-send}
use Rattle.pipe_writer.specs.contracts.ruled_sender.RuledSender as sender
use Rattle.pipe_writer.specs.contracts.ruled_sender.RuledSender.TheInside as inside
use Rattle.pipe_writer.proofs.sender_way.SenderWay.TheSendSync.{the_send as way-send}

inside-send : (R : RattleType) → IsSend R → IsSend (inside.the_row R)
inside-send R s = recorded_send _ (inside.the_type R).D (inside.the_type R).to (inside.the_type R).to_one (struct_send (shape (inside.the_type R)) (
  s,
  (
    search sendable depth 20,
    (
      search sendable depth 20,
      (
        search sendable depth 20,
        (
          search (sendable, way-send) depth 20,
          (
            search (sendable, Vec-send, chunk-send) depth 20,
            tt,
          ),
        ),
      ),
    ),
  ),
))

pub sender-send : (R : RattleType) → IsSend R → IsSend (sender.the_row R)
sender-send R s = search (sendable, inside-send R s) depth 20
