use Rattle.std.proofs.Common.{◌∙◌, refl}
use Rattle.pipe_groups.proofs.LaidFacts.{laid-none}
use Rattle.pipe_groups.proofs.groups.Groups.release.Goals as goal

pub invariant_of-self : goal.invariant_of-self
invariant_of-self c =
    laid-none _ c.self.invariant.shape c.new.ensures.items c.new-2.ensures.items c.release.ensures.groups (c.release.ensures.fresh ∙ c.self.invariant.like) refl
