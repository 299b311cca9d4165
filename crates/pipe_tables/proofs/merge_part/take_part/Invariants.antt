use Rattle.pipe_chains.proofs.Walks.{left_of}
use Rattle.pipe_tables.proofs.PartFacts.{TakesPart}
use Rattle.pipe_tables.proofs.merge_part.take_part.Given as goal

abbrev pub invariant-loop-at : goal.invariant-loop-at
invariant-loop-at l = TakesPart l.parts.partitions l.partition l.parts.chains.leads l.initial.own l.initial.other l.own l.other l.at

abbrev pub decreases-loop-at : goal.decreases-loop-at
decreases-loop-at l = left_of l.at
