use Rattle.pipe_kinds.proofs.ViewFacts.{count-is}
use Rattle.pipe_kinds.proofs.states.States.len.Goals as goal

pub returns : goal.returns
returns c = count-is c.self.inside.columns.items c.self.inside.count c.self.inside.room c.args.self.now c.self.view_is c.self.invariant
