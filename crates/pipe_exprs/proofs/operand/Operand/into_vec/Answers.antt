use Rattle.pipe_exprs.proofs.OperandFacts.{copied-same}
use Rattle.pipe_exprs.proofs.operand.Operand.into_vec.Goals as goal

pub returns-in_default : goal.returns-in_default
returns-in_default c = copied-same c.args.self c.args.height c.copied.result c.copied.ensures
