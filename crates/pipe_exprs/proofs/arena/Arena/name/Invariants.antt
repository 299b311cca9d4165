use Rattle.std.proofs.Common.{◌≡◌}
use Rattle.pipe_model.specs.Expr.{name_of}
use Rattle.pipe_exprs.specs.Trees.{tree}
use Rattle.pipe_exprs.proofs.arena.Arena.name.Given as goal

-- the node that was reached has the name
abbrev pub invariant-loop-giver : goal.invariant-loop-giver
invariant-loop-giver l = name_of (tree l.self l.at) ≡ name_of (tree l.self l.fn.node)

abbrev pub decreases-loop-giver : goal.decreases-loop-giver
decreases-loop-giver l = l.at.0
