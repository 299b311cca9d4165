use Rattle.pipe_asked.proofs.Apart.{NeighboursDiffer}
use Rattle.pipe_asked.proofs.by_place.are_apart.Given as goal

-- no place so far is that behind it
abbrev pub invariant-loop-i : goal.invariant-loop-i
invariant-loop-i l = NeighboursDiffer l.sorted.items l.i
