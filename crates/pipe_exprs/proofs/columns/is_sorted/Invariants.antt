use Rattle.std.proofs.Common.{◌≡◌}
use Rattle.pipe_exprs.specs.Evaluated.{keeps_sorted}
use Rattle.pipe_exprs.specs.Trees.{tree}
use Rattle.pipe_exprs.proofs.columns.is_sorted.Given as goal

-- the node that was reached has the flag
abbrev pub invariant-loop-input : goal.invariant-loop-input
invariant-loop-input l = keeps_sorted (tree l.arena l.at) l.columns ≡ keeps_sorted (tree l.arena l.fn.node) l.columns

abbrev pub decreases-loop-input : goal.decreases-loop-input
decreases-loop-input l = l.at.0
