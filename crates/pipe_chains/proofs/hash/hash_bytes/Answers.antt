use Rattle.std.proofs.Common.{arith}
use Rattle.std.proofs.lemmas.Grind.{common_steps}
use Rattle.pipe_chains.specs.Hash.{hash_of}
use Rattle.pipe_chains.proofs.hash.hash_bytes.Goals as goal

pub returns : goal.returns
unfolding hash_of
returns c = grind (arith, common_steps)
