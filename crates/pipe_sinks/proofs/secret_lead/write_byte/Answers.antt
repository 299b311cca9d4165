use Rattle.pipe_sinks.proofs.SecretFacts.{wrote-byte, wrote-zero}
use Rattle.pipe_sinks.proofs.secret_lead.write_byte.Goals as goal

pub returns-then-byte-eq0 : goal.returns-then-byte-eq0
returns-then-byte-eq0 c = λ rest. wrote-zero _ _ c.args.byte rest c.if-byte-eq0.true c.write.ensures

pub returns-else-byte-eq0 : goal.returns-else-byte-eq0
returns-else-byte-eq0 c = λ rest. wrote-byte _ _ c.args.byte rest c.if-byte-eq0.false c.write-else-byte-eq0.ensures
