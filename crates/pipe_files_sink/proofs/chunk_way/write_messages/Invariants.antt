use Rattle.std.proofs.Common.{ℕ}
use Rattle.pipe_files_sink.specs.Telling.{TellsSince}
use Rattle.pipe_files_sink.proofs.chunk_way.write_messages.Given as goal

-- the core goes on to tell as it did
abbrev pub invariant-loop-turn : goal.invariant-loop-turn
invariant-loop-turn g l = (n : ℕ) → TellsSince n (g.W.SinkWriter.faults l.fn.core.core.writer) l.fn.core.fault → TellsSince n (g.W.SinkWriter.faults l.core.core.writer) l.core.fault
