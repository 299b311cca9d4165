use Rattle.pipe_chains.specs.Heads.{slot_of}
use Rattle.pipe_chains.proofs.AlongFacts.{IsAlong}
use Rattle.pipe_chains.proofs.link.along.Given as goal

abbrev pub invariant-loop-told : goal.invariant-loop-told
invariant-loop-told l = IsAlong (slot_of l.heads) l.links l.lead l.initial.told l.told

abbrev pub decreases-loop-told : goal.decreases-loop-told
decreases-loop-told l = l.told
