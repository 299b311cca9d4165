use Rattle.std.proofs.Common.{arith, sym, ap}
use Rattle.pipe_groups.specs.Groups.{Group}
use Rattle.pipe_groups.proofs.LaidFacts.{group-is, index-within}
use Rattle.pipe_groups.proofs.groups.Groups.first.Goals as goal

pub index-requires : goal.index-requires
index-requires c = omega (arith, index-within c.self.inside c.args.self.now c.self.view_is c.self.invariant c.args.index c.requires)

pub returns : goal.returns
returns c = ap (λ (g : Group). g.first) (sym (group-is c.self.inside c.args.self.now c.self.view_is c.self.invariant c.args.index c.requires c.index.result.now c.index.ensures))
