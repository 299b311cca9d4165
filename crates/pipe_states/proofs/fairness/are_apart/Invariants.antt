use Rattle.pipe_states.proofs.Apart.{NeighboursDiffer}
use Rattle.pipe_states.proofs.fairness.are_apart.Given as goal

-- no place so far is that behind it
abbrev pub invariant-loop-i : goal.invariant-loop-i
invariant-loop-i l = NeighboursDiffer l.places.items l.i
