use Rattle.std.proofs.Common.{arith, refl}
use Rattle.pipe_sinks.proofs.SecretFacts.{wrote-all, wrote-next}
use Rattle.pipe_sinks.proofs.secret_lead.write_escaped.Goals as goal

pub loop-byte-preserved : goal.loop-byte-preserved
loop-byte-preserved c = wrote-next _ _ _ _ c.loop-byte.byte-index _ c.loop-byte-test.true c.loop-byte.invariant c.write_byte.ensures refl

pub returns : goal.returns
returns c = wrote-all _ _ _ c.loop-byte.byte-index (omega arith) c.loop-byte.invariant
