use Rattle.std.proofs.Common.{refl}
use Rattle.pipe_keyed.proofs.KeyFacts.{either-end, led-same, led-set}
use Rattle.pipe_keyed.proofs.keyed_groups.KeyedGroups.feed_lent.Goals as goal

pub invariant_of-self : goal.invariant_of-self
invariant_of-self g c = either-end c.feed_lent.result c.feed_lent.ensures.ok c.feed_lent.ensures.err
    (λ h. led-set g.M.Marking.marks g.M.Marking.can_hide _ _ c.self.inside.groups.shape _ c.self.inside.groups.groups _ _ _ c.args.index _ h refl c.self.invariant)
    (λ h. led-same g.M.Marking.marks g.M.Marking.can_hide _ _ c.self.inside.groups.shape _ c.self.inside.groups.groups _ _ _ h c.self.invariant)
