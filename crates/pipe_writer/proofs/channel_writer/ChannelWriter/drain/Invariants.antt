use Rattle.pipe_writer.specs.Wrote.{HasRun}
use Rattle.pipe_writer.proofs.channel_writer.ChannelWriter.drain.Given as goal

-- what was received so far has come to the writer
abbrev pub invariant-loop-turn : goal.invariant-loop-turn
invariant-loop-turn g l = HasRun {kind = g.W.SinkWriter} l.initial.self l.self
