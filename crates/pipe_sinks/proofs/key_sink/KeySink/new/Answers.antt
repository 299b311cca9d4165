use Rattle.pipe_sinks.proofs.key_sink.KeySink.new.Goals as goal

pub new-requires-clause-key : goal.new-requires-clause-key
new-requires-clause-key g c = record { dtype = g.S.SoleKey.dtype; is = c.requires.key; narrow = g.met.S.SoleKey.narrow }
