use Rattle.pipe_sinks.proofs.SecretFacts.{secret-text}
use Rattle.pipe_sinks.proofs.secret_lead.secret_text.Goals as goal

pub returns : goal.returns
returns c = secret-text c.args.hash_keys c.args.text.now _ _ _ _ _ c.secret_hasher-hasher.ensures c.write.ensures c.write_text.ensures c.write-2.ensures c.finish.ensures
