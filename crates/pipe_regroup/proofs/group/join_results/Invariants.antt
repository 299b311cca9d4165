use Rattle.pipe_regroup.proofs.ListFacts.{IsJoinedTo}
use Rattle.pipe_regroup.proofs.group.join_results.Given as goal

-- the results so far are joined, and the others as they were
abbrev pub invariant-loop-j : goal.invariant-loop-j
invariant-loop-j l = record { joined : IsJoinedTo l.earlier l.later l.rules l.more l.fn.held l.held l.j }
