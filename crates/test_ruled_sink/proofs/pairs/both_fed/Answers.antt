use Rattle.std.proofs.Crossing.{Vec-send}
use denote.Param.Send.{sendable}
use Rattle.pipe_columns.proofs.data_chunk.DataChunk.TheSendSync.{the_send as chunk-send}
use Rattle.pipe_columns.proofs.schema.Schema.TheSendSync.{the_sync as schema-sync}
use Rattle.test_ruled_sink.proofs.Sending.{sender-send}
use Rattle.test_ruled_sink.proofs.pairs.both_fed.Goals as goal

pub join-requires-send-F : goal.join-requires-send-F
join-requires-send-F g c κs within = search (sendable, sender-send, Vec-send, chunk-send, schema-sync) depth 20

pub join-requires-send-A : goal.join-requires-send-A
join-requires-send-A g c κs within = search (sendable, sender-send) depth 20
