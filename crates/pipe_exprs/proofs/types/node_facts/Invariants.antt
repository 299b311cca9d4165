use Rattle.std.proofs.Common.{◌≡◌, take, map}
use Rattle.pipe_exprs.specs.NodeFacts.{facts_of}
use Rattle.pipe_exprs.specs.Trees.{trees}
use Rattle.pipe_exprs.proofs.types.node_facts.Given as goal

-- all is known of the nodes so far
abbrev pub invariant-loop-node : goal.invariant-loop-node
invariant-loop-node l = l.facts.items ≡ map (facts_of l.fields) (trees (take l.node l.arena))
