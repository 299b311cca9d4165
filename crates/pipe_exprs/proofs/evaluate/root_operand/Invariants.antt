use Rattle.pipe_exprs.specs.Operands.{AreReady}
use Rattle.pipe_exprs.proofs.evaluate.root_operand.Given as goal

-- the operands of the nodes so far
abbrev pub invariant-loop-place : goal.invariant-loop-place
invariant-loop-place l = AreReady l.frame l.arena l.uses.items l.place l.slots.items
