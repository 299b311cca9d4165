use Rattle.std.proofs.Common.{refl}
use Rattle.pipe_keyed.proofs.KeyFacts.{led-set}
use Rattle.pipe_keyed.proofs.keyed_groups.KeyedGroups.feed_run.Goals as goal

pub invariant_of-self : goal.invariant_of-self
invariant_of-self g c = led-set g.M.Marking.marks g.M.Marking.can_hide _ _ c.self.inside.groups.shape _ c.self.inside.groups.groups _ _ _ c.args.index _ c.feed_run.ensures.groups refl c.self.invariant
