use Rattle.std.proofs.Common.{◌∙◌}
use Rattle.pipe_kinds.proofs.ViewFacts.{all-wide, width-is}
use Rattle.pipe_kinds.proofs.states.States.width.Goals as goal

pub returns-clause-width : goal.returns-clause-width
returns-clause-width c = c.len.ensures ∙ c.self.inside.columns.ok.0 ∙ width-is c.self.inside.columns.items c.self.inside.count c.self.inside.room c.args.self.now c.self.view_is c.self.invariant

pub returns-clause-sized : goal.returns-clause-sized
returns-clause-sized c = all-wide c.self.inside.columns.items c.self.inside.count c.self.inside.room c.args.self.now c.self.view_is c.self.invariant
