use Rattle.std.proofs.Common.{◌≡◌, length}
use Rattle.pipe_chains.proofs.LeadFacts.{LinkedTo}
use Rattle.pipe_chains.proofs.link.link_all.Given as goal

abbrev pub invariant-loop-index : goal.invariant-loop-index
invariant-loop-index l = LinkedTo l.initial.links l.links l.heads l.index × (length l.heads.told.items ≡ length l.initial.heads.told.items)
