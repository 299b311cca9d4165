use Rattle.std.proofs.Common.{rules}
use Rattle.pipe_chains.specs.Hash.{secret_hash_of}
use Rattle.pipe_chains.proofs.secret.secret_hash.Goals as goal

pub returns : goal.returns
unfolding secret_hash_of
returns c = search rules
