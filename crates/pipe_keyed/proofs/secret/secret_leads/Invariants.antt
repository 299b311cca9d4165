use Rattle.std.proofs.Common.{◌≡◌, map, take}
use Rattle.pipe_chains.specs.Hash.{secret_hash_of}
use Rattle.pipe_groups.specs.Groups.{group_keys}
use Rattle.pipe_keyed.proofs.secret.secret_leads.Given as goal

abbrev pub invariant-loop-index : goal.invariant-loop-index
invariant-loop-index l = l.leads.items ≡ map (secret_hash_of l.hash_keys) (group_keys (take l.index l.groups.groups))
