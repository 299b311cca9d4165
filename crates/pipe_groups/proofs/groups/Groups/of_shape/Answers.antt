use Rattle.std.proofs.Common.{refl}
use Rattle.pipe_groups.proofs.LaidFacts.{laid-none}
use Rattle.pipe_groups.proofs.groups.Groups.of_shape.Goals as goal

pub invariant_of-result : goal.invariant_of-result
invariant_of-result c = laid-none _ c.requires.shape c.new.ensures.items c.new-2.ensures.items c.requires.none c.requires.like refl
