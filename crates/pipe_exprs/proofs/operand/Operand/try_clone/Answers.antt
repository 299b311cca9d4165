use Rattle.pipe_exprs.proofs.OperandFacts.{own-same}
use Rattle.pipe_exprs.proofs.operand.Operand.try_clone.Goals as goal

pub returns-in_ok-copied-in-Own : goal.returns-in_ok-copied-in-Own
returns-in_ok-copied-in-Own c = own-same c.args.self.now c.args.height _ c.in_ok-copied-in-Own.ensures
