use Rattle.pipe_writer.specs.Wrote.{HasRun}
use Rattle.pipe_writer.proofs.channel_writer.write_until_end.Given as goal

-- what was received so far has come to the writer
abbrev pub invariant-loop-turn : goal.invariant-loop-turn
invariant-loop-turn g l = HasRun {kind = g.W.SinkWriter} l.fn.writer l.writer
