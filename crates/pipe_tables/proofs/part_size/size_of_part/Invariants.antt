use Rattle.pipe_chains.proofs.Walks.{left_of}
use Rattle.pipe_tables.proofs.PartSizes.{Sizes}
use Rattle.pipe_tables.proofs.part_size.size_of_part.Given as goal

abbrev pub invariant-loop-at : goal.invariant-loop-at
invariant-loop-at l = Sizes l.parts.partitions l.partition l.keyed.groups l.parts.chains.leads l.size l.at

abbrev pub decreases-loop-at : goal.decreases-loop-at
decreases-loop-at l = left_of l.at
