use Rattle.std.proofs.Common.{arith}
use Rattle.pipe_groups.proofs.LaidFacts.{count-entries}
use Rattle.pipe_groups.proofs.groups.Groups.len.Goals as goal

pub returns-clause-len : goal.returns-clause-len
returns-clause-len c = omega (arith, c.self.inside.entries.ok.0, c.len.ensures, count-entries c.self.inside c.args.self.now c.self.view_is c.self.invariant)
